-- `errors::divided` meets its contract: Horner's rule three times over. Assumes nothing.
use Rattle.general.proofs.Names.{arith}
use Rattle.reed_solomon.proofs.Magnitudes.{dividing_start, dividing_two, dividing_end, dividing_last}
use Rattle.reed_solomon.proofs.errors.divided.Goals as goal

pub loop-j-init : goal.loop-j-init
loop-j-init c = (dividing_start _ _ _ _ _, omega arith, omega arith)

pub loop-j-preserved : goal.loop-j-preserved
loop-j-preserved c = (dividing_two _ _ _ _ _ _ _ _ _ _ _ _ c.loop-j.invariant.0 c.next_two-q.ensures, omega arith, omega arith)

pub returns-then-l-j : goal.returns-then-l-j
returns-then-l-j c = dividing_end _ _ _ _ _ _ _ _ _ c.loop-j.invariant.0 c.loop-j.invariant.2 (omega arith)

pub returns : goal.returns
returns c = dividing_last _ _ _ _ _ _ _ _ _ _ _ c.loop-j.invariant.0 (omega arith) c.last.ensures.0 c.last.ensures.1
