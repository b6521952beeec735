-- `put_one` meets its contract. Assumes nothing.
use Rattle.drawing.proofs.Puts.{puts_one, puts_skip}
use Rattle.placement.proofs.Runs.{passed_one}
use Rattle.general.proofs.Names.{refl, arith}
use Rattle.drawing.proofs.put_one.Goals as goal

pub returns-then-kinds-c-eq0 : goal.returns-then-kinds-c-eq0
returns-then-kinds-c-eq0 c = (omega arith, omega arith, puts_one c.requires.1 c.if-kinds-c-eq0.true refl c.put_bit.ensures)

pub returns : goal.returns
returns c = (omega arith, omega arith, puts_skip (passed_one _ _ c.requires.1 c.if-kinds-c-eq0.false) refl)
