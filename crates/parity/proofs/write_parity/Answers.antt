-- `write_parity` meets its contract: the data and zeros are divided, and the rest stands behind the data. Assumes nothing.
use Rattle.field.proofs.Entries.{the_field}
use Rattle.parity.proofs.ParityBytes.{written}
use Rattle.general.proofs.Names.{arith}
use Rattle.parity.proofs.write_parity.Goals as goal

pub divide-requires : goal.divide-requires
divide-requires c = record { field = c.requires.field; d_in_bounds = (omega arith, omega arith, omega arith); monic = c.requires.monic }

pub returns : goal.returns
returns c =
    written _ (the_field _ c.requires.field) _ _ _ _ _ _ (λ i. omega (arith, c.slice_known-1.given i))
    c.requires.k_in_bounds.1 c.requires.k_in_bounds.0
    c.copy.ensures c.divide.ensures.1 c.copy-2.ensures
