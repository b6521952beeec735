-- `gather_data` meets its contract: the data of one batch more in each turn. Assumes nothing.
use Rattle.general.proofs.Names.{◌∙◌, ◌+◌, ◌*◌, arith}
use Rattle.block_table.specs.Blocks.{shapes}
use Rattle.blocks.specs.Inner.{behind, gathering}
use Rattle.blocks.proofs.Rule.{behind_all}
use Rattle.blocks.proofs.Transfers.{TransferLeft, transfer_start, row_gathers, batch_room, batch_transferred, transfer_end, transfer_place, gathered_row}
use Rattle.blocks.proofs.gather_data.Goals as goal
use Rattle.blocks.proofs.gather_data.Goals.{After-struct_known-1}

-- the data of a turn's batch are gathered
next : (c : After-struct_known-1) →
    let b = c.batch_of-b.result in
    TransferLeft gathering (shapes c.args.row.now) 0 0 c.args.stream.now c.args.out.now (behind (c.loop-k.k + 1) c.args.row.now)
    (c.loop-k.n + b.count * b.info) (c.loop-k.from + b.count * (b.info + b.parity)) c.gather_batch.new.out
next c = batch_transferred _ _ c.loop-k.invariant c.loop-k-test.true
    c.batch_of-b.result c.batch_of-b.ensures.is c.gather_batch.ensures c.gather_batch.auto.out

pub loop-k-init : goal.loop-k-init
unfolding behind
loop-k-init c = transfer_start (row_gathers _ _ _ c.requires.1 c.requires.2)

pub gather_batch-requires : goal.gather_batch-requires
gather_batch-requires c = batch_room _ _ c.loop-k.invariant c.loop-k-test.true _ c.batch_of-b.ensures.is

pub overflow_mul-n : goal.overflow_mul-n
overflow_mul-n c = omega (arith, (next (goal.at.overflow_mul-n c).After-struct_known-1).room.into)

pub overflow_add-n : goal.overflow_add-n
overflow_add-n c = omega (arith, (next (goal.at.overflow_add-n c).After-struct_known-1).room.into)

pub overflow_add-from : goal.overflow_add-from
overflow_add-from c = omega arith

pub overflow_mul-from : goal.overflow_mul-from
overflow_mul-from c = omega (arith, (next (goal.at.overflow_mul-from c).After-struct_known-1).room.out)

pub overflow_add-from-in-loop-k : goal.overflow_add-from-in-loop-k
overflow_add-from-in-loop-k c = omega (arith, (next (goal.at.overflow_add-from-in-loop-k c).After-struct_known-1).room.out)

pub loop-k-preserved : goal.loop-k-preserved
loop-k-preserved c = next (goal.at.loop-k-preserved c).After-struct_known-1

pub shape_of-out : goal.shape_of-out
shape_of-out c = c.loop-k.invariant.size

pub returns : goal.returns
returns c =
    let all = behind_all c.args.row.now _ c.loop-k-test.false in
    let q = gathered_row (shapes c.args.row.now) _ _ c.requires.1 c.requires.2 _ (transfer_place c.loop-k.invariant all) in
    (q.0, transfer_end c.loop-k.invariant all ∙ q.1)
