-- `locate` meets its contract: the roots, the modified syndromes, and their locator. Assumes nothing.
use Rattle.general.proofs.Names.{refl, arith}
use Rattle.reed_solomon.proofs.Massey.{zeros}
use Rattle.erasures.proofs.Rooting.{one_size, one_unit, one_tail, reduction_of}
use Rattle.erasures.proofs.locate.Goals as goal

pub add_roots-requires : goal.add_roots-requires
add_roots-requires c = record { field = c.requires.field; f_len = (one_size, one_unit, one_tail); flags_len_bound = (c.requires.parity_bound.1, omega arith) }

pub modified-requires : goal.modified-requires
modified-requires c = record { field = c.requires.field; s_len = (c.requires.s_len.0, c.add_roots.ensures.size, omega arith); t_len = (refl, λ i. omega (arith, zeros 256 i)) }

pub locator-requires : goal.locator-requires
locator-requires c = let m = c.modified.ensures in
    record { field = c.requires.field; n_bound = omega arith; s_len = (m.size, m.bytes); f_len = (c.requires.s_len.1, c.requires.s_len.2) }

pub returns : goal.returns
returns c = reduction_of _ _ _ _ _ _ _ _ _ _ _ one_unit c.requires.parity_bound.3 c.add_roots.ensures c.modified.ensures c.locator.ensures
