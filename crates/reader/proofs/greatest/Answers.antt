-- `greatest` meets its contract. Assumes nothing.
use Rattle.general.proofs.Names.{arith}
use Rattle.reader.proofs.Bytes.{greatest_start, greatest_next, greatest_end}
use Rattle.reader.proofs.greatest.Goals as goal

pub loop-i-init : goal.loop-i-init
loop-i-init c = (greatest_start _, omega arith)

pub loop-i-preserved : goal.loop-i-preserved
loop-i-preserved c = (greatest_next _ _ _ _ c.loop-i.invariant.0 c.greater-top.ensures, omega arith)

pub returns : goal.returns
returns c = greatest_end _ _ _ c.loop-i.invariant.0 (omega arith)
