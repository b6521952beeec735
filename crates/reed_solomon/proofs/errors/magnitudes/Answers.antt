-- `errors::magnitudes` meets its contract. Assumes nothing.
use Rattle.general.proofs.Names.{arith}
use Rattle.reed_solomon.proofs.Magnitudes.{errors_start, errors_next, errors_end}
use Rattle.reed_solomon.proofs.errors.magnitudes.Goals as goal

pub loop-d-init : goal.loop-d-init
loop-d-init c = (errors_start _ _ _ _ _ _, omega arith)

pub bounds-e-d : goal.bounds-e-d
bounds-e-d c = omega (arith, c.loop-d.invariant.0.size)

pub bounds-e-d-in-loop-d : goal.bounds-e-d-in-loop-d
bounds-e-d-in-loop-d c = omega (arith, c.loop-d.invariant.0.size)

pub loop-d-preserved : goal.loop-d-preserved
loop-d-preserved c = (errors_next _ _ _ _ _ _ _ _ _ c.loop-d.invariant.0 (omega arith) c.error_at.ensures, omega arith)

pub shape_of-e : goal.shape_of-e
shape_of-e c = c.loop-d.invariant.0.size

pub returns : goal.returns
returns c = errors_end _ _ _ _ _ _ _ _ _ c.loop-d.invariant.0 c.loop-d.invariant.1 (omega arith)
