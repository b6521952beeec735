-- `locator::copy` meets its contract. Assumes nothing.
use Rattle.general.proofs.Names.{refl, arith}
use Rattle.general.proofs.Each.{each_start, each_next, each_end}
use Rattle.reed_solomon.proofs.locator.copy.Goals as goal

pub loop-i-init : goal.loop-i-init
loop-i-init c = (each_start _ _, omega arith)

pub bounds-dst-i : goal.bounds-dst-i
bounds-dst-i c = omega (arith, c.loop-i.invariant.0.size)

pub loop-i-preserved : goal.loop-i-preserved
loop-i-preserved c = (each_next _ _ _ _ _ c.loop-i.invariant.0 (omega arith) refl, omega arith)

pub shape_of-dst : goal.shape_of-dst
shape_of-dst c = c.loop-i.invariant.0.size

pub returns : goal.returns
returns c = each_end _ _ _ _ _ c.loop-i.invariant.0 (omega arith) (omega arith)
