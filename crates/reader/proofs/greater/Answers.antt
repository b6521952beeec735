-- `greater` meets its contract. Assumes nothing.
use Rattle.general.proofs.Names.{refl, inl, inr, arith}
use Rattle.reader.proofs.greater.Goals as goal

pub returns-then-a-b : goal.returns-then-a-b
returns-then-a-b c = record { left = omega arith; right = omega arith; one = inr refl }

pub returns-else-a-b : goal.returns-else-a-b
returns-else-a-b c = record { left = omega arith; right = omega arith; one = inl refl }
