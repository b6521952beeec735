-- `put_last` meets its contract. Assumes nothing.
use Rattle.drawing.proofs.Puts.{row_buffers_kept, puts_none, puts_on, puts_all}
use Rattle.general.proofs.Names.{sym, ◌∙◌, arith}
use Rattle.drawing.proofs.put_last.Goals as goal

pub loop-p-init : goal.loop-p-init
loop-p-init c = (c.requires.0, c.requires.1, puts_none)

pub put_one-p-requires : goal.put_one-p-requires
put_one-p-requires c = (c.loop-p.invariant.0, c.loop-p-test.true)

pub loop-p-smaller : goal.loop-p-smaller
loop-p-smaller c = omega arith

pub loop-p-preserved : goal.loop-p-preserved
loop-p-preserved c = (row_buffers_kept c.put_one-p.auto.square c.loop-p.invariant.0, c.put_one-p.ensures.1, puts_on c.loop-p.invariant.2 c.put_one-p.ensures.2)

pub shape_of-square : goal.shape_of-square
shape_of-square c = c.loop-p.invariant.0.size ∙ sym c.requires.0.size

pub returns : goal.returns
returns c = puts_all c.loop-p.invariant.2 (omega arith)
