-- `shifted` meets its contract. Assumes nothing.
use Rattle.general.proofs.Names.{arith}
use Rattle.remainder.proofs.Steps.{shift_on}
use Rattle.remainder.proofs.shifted.Goals as goal

pub returns : goal.returns
returns c =
    shift_on _ _ _ _ _ _ _ c.requires.1 (omega arith) (omega arith) (omega arith) (omega arith) c.moved.ensures
    c.add_digit.ensures c.add_digit-2.ensures (omega arith)
