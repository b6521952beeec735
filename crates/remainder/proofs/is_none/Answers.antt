-- `is_none` meets its contract. Assumes nothing.
use Rattle.general.proofs.Names.{false≢true, arith, eqb-true}
use Rattle.remainder.proofs.Places.{register_eq}
use Rattle.remainder.proofs.is_none.Goals as goal

pub returns-then-r-ne0 : goal.returns-then-r-ne0
returns-then-r-ne0 c = λ e. absurd (false≢true e)

pub returns-then-r-ne0-2 : goal.returns-then-r-ne0-2
returns-then-r-ne0-2 c = λ e. absurd (false≢true e)

pub returns-then-r-ne0-3 : goal.returns-then-r-ne0-3
returns-then-r-ne0-3 c = λ e. absurd (false≢true e)

pub returns : goal.returns
returns c = λ e. register_eq (omega arith) (omega arith) (omega arith) (eqb-true _ _ e)
