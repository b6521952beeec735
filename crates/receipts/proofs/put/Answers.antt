-- `put` meets its contract. Assumes nothing.
use Rattle.general.proofs.Names.{refl, arith}
use Rattle.general.proofs.Each.{each_start, each_next}
use Rattle.receipts.proofs.Receipts.{put_end}
use Rattle.receipts.proofs.put.Goals as goal

pub loop-i-init : goal.loop-i-init
loop-i-init c = (each_start _ _, omega arith)

pub bounds-receipt-i : goal.bounds-receipt-i
bounds-receipt-i c = omega (arith, c.loop-i.invariant.0.size)

pub loop-i-preserved : goal.loop-i-preserved
loop-i-preserved c = (each_next _ _ _ _ _ c.loop-i.invariant.0 (omega arith) refl, omega arith)

pub shape_of-receipt : goal.shape_of-receipt
shape_of-receipt c = c.loop-i.invariant.0.size

pub returns : goal.returns
returns c = put_end _ _ _ _ c.loop-i.invariant.0 (omega arith) c.requires.0 c.requires.1
