-- `put_row` meets its contract. Assumes nothing.
use Rattle.drawing.proofs.Puts.{row_buffers_kept, puts_none, puts_on, puts_end, placing_begun}
use Rattle.general.proofs.Names.{sym, ◌∙◌, arith}
use Rattle.drawing.proofs.put_row.Goals as goal

pub loop-p-init : goal.loop-p-init
loop-p-init c = (c.requires.0, omega arith, puts_none)

pub put_step-p-requires : goal.put_step-p-requires
put_step-p-requires c = (c.loop-p.invariant.0, c.groups_end-end.ensures.0 _ c.loop-p-test.true)

pub loop-p-smaller : goal.loop-p-smaller
loop-p-smaller c = omega arith

pub loop-p-preserved : goal.loop-p-preserved
loop-p-preserved c = (row_buffers_kept c.put_step-p.auto.square c.loop-p.invariant.0, c.put_step-p.ensures.1, puts_on c.loop-p.invariant.2 c.put_step-p.ensures.2)

pub put_last-requires : goal.put_last-requires
put_last-requires c = (c.loop-p.invariant.0, c.loop-p.invariant.1)

pub shape_of-square : goal.shape_of-square
shape_of-square c = c.put_last.auto.square ∙ c.loop-p.invariant.0.size
    ∙ sym c.requires.0.size

pub returns : goal.returns
returns c =
    (puts_end c.loop-p.invariant.2 c.put_last.ensures).go _ _
    (placing_begun _ _ _
    _ c.requires.0.size c.requires.1)
