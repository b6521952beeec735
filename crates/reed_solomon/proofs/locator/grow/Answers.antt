-- `locator::grow` meets its contract: from the top down to m, and the places below. Assumes nothing.
use Rattle.general.proofs.Names.{◌∙◌, arith}
use Rattle.general.proofs.Each.{above_start}
use Rattle.reed_solomon.proofs.Massey.{growing_next, growing_end}
use Rattle.reed_solomon.proofs.locator.grow.Goals as goal

pub loop-i-init : goal.loop-i-init
loop-i-init c = (record { more = above_start _ _ _; old = above_start _ _ _ }, omega arith, omega arith)

pub loop-i-preserved : goal.loop-i-preserved
loop-i-preserved c = (
  growing_next _ _ _ _ _ _ _ _ _ _ c.loop-i.invariant.0 (omega arith) (omega arith) (omega arith) (omega arith) c.mul.ensures,
  omega arith,
  omega arith,
)

pub copy-requires : goal.copy-requires
copy-requires c = (omega (arith, c.loop-i.invariant.0.old.size), omega (arith, c.loop-i.invariant.0.more.size))

pub shape_of-f : goal.shape_of-f
shape_of-f c = c.loop-i.invariant.0.more.size

pub shape_of-g : goal.shape_of-g
shape_of-g c = c.copy.ensures.size ∙ c.loop-i.invariant.0.old.size

pub returns : goal.returns
returns c = growing_end _ _ _ _ _ _ _ _ _ _ c.loop-i.invariant.0 (omega arith) (omega arith) c.copy.ensures
