use Rattle.block_table.specs.Blocks.{batch}
use Rattle.blocks.specs.Inner.{blocks_in, writing}
use Rattle.blocks.proofs.Transfers.{TransferLeft}
use Rattle.block_writer.proofs.write_many.Given as goal

abbrev pub invariant-loop-left : goal.invariant-loop-left
invariant-loop-left l = TransferLeft writing (blocks_in l.b) l.to l.from l.«data» l.initial.stream (batch l.left l.b.info l.b.parity) l.into l.at l.stream

abbrev pub decreases-loop-left : goal.decreases-loop-left
decreases-loop-left l = l.left
