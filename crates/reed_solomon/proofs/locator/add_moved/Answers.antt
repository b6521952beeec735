-- `locator::add_moved` meets its contract: below m nothing is added. Assumes nothing.
use Rattle.general.proofs.Names.{arith}
use Rattle.field.specs.Table.{poly_of}
use Rattle.general.proofs.Each.{each_end}
use Rattle.reed_solomon.proofs.Massey.{adding_start, adding_next}
use Rattle.reed_solomon.proofs.locator.add_moved.Goals as goal

pub loop-i-init : goal.loop-i-init
loop-i-init c = (adding_start (poly_of c.args.field.now) c.args.q c.args.m c.args.g.now c.args.f.now, omega arith, omega arith)

pub bounds-f-i : goal.bounds-f-i
bounds-f-i c = omega (arith, c.loop-i.invariant.0.size)

pub bounds-f-i-in-loop-i : goal.bounds-f-i-in-loop-i
bounds-f-i-in-loop-i c = omega (arith, c.loop-i.invariant.0.size)

pub loop-i-preserved : goal.loop-i-preserved
loop-i-preserved c = (
  adding_next (poly_of c.args.field.now) c.args.q c.args.m c.args.g.now c.loop-i.i c.mul.result
      c.args.f.now c.loop-i.f c.loop-i.invariant.0 (omega arith) c.loop-i.invariant.1 c.mul.ensures,
  omega arith,
  omega arith,
)

pub shape_of-f : goal.shape_of-f
shape_of-f c = c.loop-i.invariant.0.size

pub returns : goal.returns
returns c = each_end _ _ _ _ _ c.loop-i.invariant.0 (omega arith) (omega arith)
