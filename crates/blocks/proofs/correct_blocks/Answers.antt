-- `correct_blocks` meets its contract: one batch more in each turn. Assumes nothing.
use Rattle.general.proofs.Names.{◌+◌, ◌*◌, arith}
use Rattle.block_table.specs.Blocks.{shapes}
use Rattle.block_table.proofs.Rows.{total_batch}
use Rattle.blocks.specs.Inner.{blocks_in, behind}
use Rattle.blocks.proofs.Rule.{behind_next, behind_all}
use Rattle.blocks.proofs.Corrects.{BlocksLeft, blocks_left_start, blocks_left_room, blocks_left_next, blocks_left_stop, blocks_left_end}
use Rattle.blocks.proofs.Answers.{row_answered}
use Rattle.blocks.proofs.correct_blocks.Goals as goal
use Rattle.blocks.proofs.correct_blocks.Goals.{In-Corrected}

-- the batch of a turn is corrected
next : (c : In-Corrected) →
    let b = c.batch_of-b.result in
    BlocksLeft c.args.flags.now (shapes c.args.row.now) 0 c.args.stream.now (behind (c.loop-k.k + 1) c.args.row.now)
    (c.loop-k.at + b.count * (b.info + b.parity)) (c.loop-k.total + c.in-Corrected.n) c.correct_batch-r.new.stream
next c = blocks_left_next c.loop-k.invariant _ _ (behind_next _ _ c.loop-k-test.true c.batch_of-b.result c.batch_of-b.ensures.is) _ _
    c.correct_batch-r.ensures c.in-Corrected.is c.correct_batch-r.auto.stream
    (omega (arith, total_batch c.batch_of-b.result.count c.batch_of-b.result.info c.batch_of-b.result.parity))

pub loop-k-init : goal.loop-k-init
unfolding behind
loop-k-init c = blocks_left_start _ _ _ _ (omega arith)

pub correct_batch-r-requires : goal.correct_batch-r-requires
correct_batch-r-requires c =
    let room = blocks_left_room c.loop-k.invariant (blocks_in c.batch_of-b.result) _ (behind_next _ _ c.loop-k-test.true _ c.batch_of-b.ensures.is) in
    let flagged = c.requires.3 in (
      c.batch_of-b.ensures.info,
      c.batch_of-b.ensures.parity,
      omega (arith, room.0),
      record { enough = λ h. omega (arith, room.1, flagged.enough h) },
    )

pub returns-in_default : goal.returns-in_default
returns-in_default c =
    row_answered _ _ _ _ _ c.requires.2
    (blocks_left_stop c.loop-k.invariant _ _
    (behind_next _ _ c.loop-k-test.true _ c.batch_of-b.ensures.is) _
    c.correct_batch-r.ensures c.in_default.is)

pub overflow_add-total : goal.overflow_add-total
overflow_add-total c = omega (arith, (next (goal.at.overflow_add-total c).In-Corrected).few, (next (goal.at.overflow_add-total c).In-Corrected).room)

pub overflow_add-at : goal.overflow_add-at
overflow_add-at c = omega arith

pub overflow_mul-at : goal.overflow_mul-at
overflow_mul-at c = omega (arith, (next (goal.at.overflow_mul-at c).In-Corrected).room)

pub overflow_add-at-in-loop-k : goal.overflow_add-at-in-loop-k
overflow_add-at-in-loop-k c = omega (arith, (next (goal.at.overflow_add-at-in-loop-k c).In-Corrected).room)

pub loop-k-preserved : goal.loop-k-preserved
loop-k-preserved c = next (goal.at.loop-k-preserved c).In-Corrected

pub shape_of-stream : goal.shape_of-stream
shape_of-stream c = c.loop-k.invariant.size

pub returns : goal.returns
returns c = row_answered _ _ _ _ _ c.requires.2 (blocks_left_end c.loop-k.invariant (behind_all _ _ c.loop-k-test.false))
