-- `places::values` meets its contract: one place after the other. Assumes nothing.
use Rattle.general.proofs.Names.{arith}
use Rattle.reed_solomon.proofs.Terms.{values_end}
use Rattle.general.proofs.Each.{each_start, each_next}
use Rattle.comparison.proofs.places.values.Goals as goal

pub loop-d-init : goal.loop-d-init
loop-d-init c = (each_start _ _, omega arith)

pub bounds-e-d : goal.bounds-e-d
bounds-e-d c = omega (arith, c.loop-d.invariant.0.size)

pub loop-d-preserved : goal.loop-d-preserved
loop-d-preserved c = (each_next _ _ _ _ _ c.loop-d.invariant.0 (omega arith) c.value.ensures, omega arith)

pub shape_of-e : goal.shape_of-e
shape_of-e c = c.loop-d.invariant.0.size

pub returns : goal.returns
returns c = values_end _ _ _ _ _ _ _ c.loop-d.invariant.0 (omega arith) c.requires.l_bound.3
