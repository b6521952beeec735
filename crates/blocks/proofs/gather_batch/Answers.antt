-- `gather_batch` meets its contract: the data part of one block more in each turn. Assumes nothing.
use Rattle.general.proofs.Names.{◌+◌, ◌-◌, arith}
use Rattle.block_table.specs.Blocks.{batch}
use Rattle.blocks.specs.Inner.{blocks_in, gathering, transferred}
use Rattle.blocks.proofs.Rule.{batch_none}
use Rattle.blocks.proofs.Transfers.{TransferLeft, transfer_start, one_room, one_next, transfer_end}
use Rattle.blocks.proofs.gather_batch.Goals as goal
use Rattle.blocks.proofs.gather_batch.Goals.{After-struct_known-1}

-- the data part of a turn's block is copied
next : (c : After-struct_known-1) →
    let b = c.args.b in
    TransferLeft gathering (blocks_in b) c.args.to c.args.from c.args.stream.now c.args.out.now
    (batch (c.loop-left.left - 1) b.info b.parity) (c.loop-left.into + b.info) (c.loop-left.at + (b.info + b.parity)) c.copy.new.dst
unfolding transferred batch
next c = one_next _ _ _ c.loop-left.invariant c.loop-left-test.true
    c.copy.ensures c.copy.auto.dst

pub loop-left-init : goal.loop-left-init
loop-left-init c = transfer_start c.requires

pub copy-requires : goal.copy-requires
copy-requires c = let room = one_room _ _ _ c.loop-left.invariant c.loop-left-test.true in (room.0, omega arith)

pub overflow_add-into : goal.overflow_add-into
overflow_add-into c = omega (arith, (next (goal.at.overflow_add-into c).After-struct_known-1).room.into)

pub overflow_add-at : goal.overflow_add-at
overflow_add-at c = omega (arith, (next (goal.at.overflow_add-at c).After-struct_known-1).room.out)

pub overflow_add-at-in-loop-left : goal.overflow_add-at-in-loop-left
overflow_add-at-in-loop-left c = omega (arith, (next (goal.at.overflow_add-at-in-loop-left c).After-struct_known-1).room.out)

pub loop-left-preserved : goal.loop-left-preserved
loop-left-preserved c = next (goal.at.loop-left-preserved c).After-struct_known-1

pub shape_of-out : goal.shape_of-out
shape_of-out c = c.loop-left.invariant.size

pub returns : goal.returns
returns c = transfer_end c.loop-left.invariant (batch_none _ _ _ c.loop-left-test.false)
