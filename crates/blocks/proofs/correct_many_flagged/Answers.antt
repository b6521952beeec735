-- `correct_many_flagged` meets its contract: one block more in each turn, with its flags. Assumes nothing.
use Rattle.general.proofs.Names.{refl, sym, ◌+◌, ◌-◌, arith}
use Rattle.reed_solomon.proofs.Massey.{zeros}
use Rattle.block_table.specs.Blocks.{batch}
use Rattle.blocks.specs.Inner.{blocks_in}
use Rattle.blocks.proofs.Rule.{batch_none}
use Rattle.blocks.proofs.Corrects.{BlocksLeft, blocks_left_start, block_room, block_next, block_stop, blocks_left_end}
use Rattle.blocks.proofs.correct_many_flagged.Goals as goal
use Rattle.blocks.proofs.correct_many_flagged.Goals.{In-Corrected}

-- the block of a turn is corrected
next : (c : In-Corrected) →
    let b = c.args.b in
    BlocksLeft c.args.flags.now (blocks_in b) c.args.from c.args.stream.now (batch (c.loop-left.left - 1) b.info b.parity)
    (c.loop-left.at + (b.info + b.parity)) (c.loop-left.n + c.in-Corrected.m) c.correct_flagged-r.new.stream
next c = block_next _ _ _ c.loop-left.invariant c.loop-left-test.true _ c.correct_flagged-r.ensures c.in-Corrected.is c.correct_flagged-r.auto.stream

pub returns-then-b-eq0 : goal.returns-then-b-eq0
returns-then-b-eq0 c = blocks_left_end (blocks_left_start _ _ _ _ c.requires.0) (batch_none _ _ _ (omega arith))

pub prepare-requires : goal.prepare-requires
prepare-requires c = (refl, zeros 512)

pub loop-left-init : goal.loop-left-init
loop-left-init c = blocks_left_start _ _ _ _ c.requires.0

pub slice_bounds-correct_flagged-end : goal.slice_bounds-correct_flagged-end
slice_bounds-correct_flagged-end c = sym c.prepare.ensures.size

pub correct_flagged-r-requires : goal.correct_flagged-r-requires
correct_flagged-r-requires c =
    let field = c.han_xin-field.ensures in
    let room = block_room _ _ _ c.loop-left.invariant c.loop-left-test.true in
    (field.0, field.1, c.prepare.ensures, room.0, omega (arith, room.1, c.requires.1))

pub returns-in_default : goal.returns-in_default
returns-in_default c = block_stop _ _ _ c.loop-left.invariant c.loop-left-test.true _ c.correct_flagged-r.ensures c.in_default.is

pub overflow_add-n : goal.overflow_add-n
overflow_add-n c = omega (arith, (next (goal.at.overflow_add-n c).In-Corrected).few, (next (goal.at.overflow_add-n c).In-Corrected).room)

pub overflow_add-at : goal.overflow_add-at
overflow_add-at c = omega (arith, (next (goal.at.overflow_add-at c).In-Corrected).room)

pub overflow_add-at-in-loop-left : goal.overflow_add-at-in-loop-left
overflow_add-at-in-loop-left c = omega (arith, (next (goal.at.overflow_add-at-in-loop-left c).In-Corrected).room)

pub loop-left-preserved : goal.loop-left-preserved
loop-left-preserved c = next (goal.at.loop-left-preserved c).In-Corrected

pub shape_of-stream : goal.shape_of-stream
shape_of-stream c = c.loop-left.invariant.size

pub returns : goal.returns
returns c = blocks_left_end c.loop-left.invariant (batch_none _ _ _ c.loop-left-test.false)
