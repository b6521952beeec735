-- `write_blocks` meets its contract: one batch more in each turn. Assumes nothing.
use Rattle.general.proofs.Names.{◌∙◌, ◌+◌, ◌*◌, arith}
use Rattle.block_table.specs.Blocks.{shapes}
use Rattle.block_table.proofs.Rows.{row_sound}
use Rattle.blocks.specs.Inner.{behind, writing}
use Rattle.blocks.proofs.Rule.{row_batch, behind_all}
use Rattle.blocks.proofs.Transfers.{TransferLeft, transfer_start, row_writes, batch_room, batch_transferred, transfer_end, written_row}
use Rattle.block_writer.proofs.write_blocks.Goals as goal
use Rattle.block_writer.proofs.write_blocks.Goals.{After-struct_known-1}

-- the blocks of a turn's batch are written
next : (c : After-struct_known-1) →
    let b = c.batch_of-b.result in
    TransferLeft writing (shapes c.args.row.now) 0 0 c.args.«data».now c.args.stream.now (behind (c.loop-k.k + 1) c.args.row.now)
    (c.loop-k.n + b.count * (b.info + b.parity)) (c.loop-k.from + b.count * b.info) c.write_batch.new.stream
next c = batch_transferred _ _ c.loop-k.invariant c.loop-k-test.true
    c.batch_of-b.result c.batch_of-b.ensures.is c.write_batch.ensures c.write_batch.auto.stream

pub loop-k-init : goal.loop-k-init
unfolding behind
loop-k-init c = transfer_start (row_writes _ _ _ c.requires.2 c.requires.3)

pub write_batch-requires : goal.write_batch-requires
write_batch-requires c =
    let few = c.loop-k-test.true in
    let batch = c.batch_of-b.ensures in
    (batch.info, batch.parity, row_batch _ _ (row_sound _ _ c.requires.1) few _ batch.is, batch_room _ _ c.loop-k.invariant few _ batch.is)

pub overflow_add-n : goal.overflow_add-n
overflow_add-n c = omega (arith, c.batch_of-b.ensures)

pub overflow_mul-n : goal.overflow_mul-n
overflow_mul-n c = omega (arith, (next (goal.at.overflow_mul-n c).After-struct_known-1).room.into)

pub overflow_add-n-in-loop-k : goal.overflow_add-n-in-loop-k
overflow_add-n-in-loop-k c = omega (arith, (next (goal.at.overflow_add-n-in-loop-k c).After-struct_known-1).room.into)

pub overflow_mul-from : goal.overflow_mul-from
overflow_mul-from c = omega (arith, (next (goal.at.overflow_mul-from c).After-struct_known-1).room.out)

pub overflow_add-from : goal.overflow_add-from
overflow_add-from c = omega (arith, (next (goal.at.overflow_add-from c).After-struct_known-1).room.out)

pub loop-k-preserved : goal.loop-k-preserved
loop-k-preserved c = next (goal.at.loop-k-preserved c).After-struct_known-1

pub shape_of-stream : goal.shape_of-stream
shape_of-stream c = c.loop-k.invariant.size

pub returns : goal.returns
returns c =
    transfer_end c.loop-k.invariant (behind_all c.args.row.now _ c.loop-k-test.false)
    ∙ written_row (shapes c.args.row.now) c.args.«data».now c.args.stream.now c.requires.2 c.requires.3
    (row_sound _ _ c.requires.1) (λ i. omega (arith, c.type_inv.data i))
