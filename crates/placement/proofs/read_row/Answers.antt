-- `read_row` meets its contract. Assumes nothing.
use Rattle.placement.proofs.Walk.{reads_none, reads_on}
use Rattle.general.proofs.Names.{refl, ◌∙◌, arith}
use Rattle.placement.proofs.read_row.Goals as goal

pub loop-r-init : goal.loop-r-init
loop-r-init c = (c.requires.1, omega arith, reads_none, refl)

pub step-r-requires : goal.step-r-requires
step-r-requires c = (c.requires.0, c.loop-r.invariant.0, c.groups_end-end.ensures.0 _ c.loop-r-test.true)

pub loop-r-smaller : goal.loop-r-smaller
loop-r-smaller c = omega arith

pub loop-r-preserved : goal.loop-r-preserved
loop-r-preserved c = (c.step-r.ensures.0, c.step-r.ensures.2, reads_on c.loop-r.invariant.2 c.step-r.ensures.3, c.step-r.auto.out ∙ c.loop-r.invariant.3)

pub read_last-requires : goal.read_last-requires
read_last-requires c = (c.requires.0, c.loop-r.invariant.0, c.loop-r.invariant.1, c.requires.3, omega arith)

pub shape_of-out : goal.shape_of-out
shape_of-out c = c.read_last.auto.out ∙ c.loop-r.invariant.3

pub returns : goal.returns
returns c = (c.read_last.ensures.0, c.read_last.ensures.1, reads_on c.loop-r.invariant.2 c.read_last.ensures.2)
