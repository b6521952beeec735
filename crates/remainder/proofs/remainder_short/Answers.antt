-- `remainder_short` meets its contract. Assumes nothing.
use Rattle.general.proofs.Names.{arith}
use Rattle.remainder.proofs.Lowered.{leaves}
use Rattle.remainder.proofs.remainder_short.Goals as goal

pub returns : goal.returns
returns c =
    leaves _ _ _ _ _ (λ T j h i f a b. c.fill_byte.ensures.rows _ (c.generator.ensures T j h) i f (omega arith) (omega arith) b)
    c.requires (λ j. omega (arith, c.type_inv.block j)) c.remainder_bytewise.ensures
