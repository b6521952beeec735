use Rattle.general.proofs.Names.{◌-◌}
use Rattle.block_table.specs.Blocks.{shapes}
use Rattle.blocks.specs.Inner.{behind, writing}
use Rattle.blocks.proofs.Transfers.{TransferLeft}
use Rattle.block_writer.proofs.write_blocks.Given as goal

abbrev pub invariant-loop-k : goal.invariant-loop-k
invariant-loop-k l = TransferLeft writing (shapes l.row) 0 0 l.«data» l.initial.stream (behind l.k l.row) l.n l.from l.stream

abbrev pub decreases-loop-k : goal.decreases-loop-k
decreases-loop-k l = 3 - l.k
