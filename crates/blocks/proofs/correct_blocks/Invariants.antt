use Rattle.general.proofs.Names.{◌-◌}
use Rattle.block_table.specs.Blocks.{shapes}
use Rattle.blocks.specs.Inner.{behind}
use Rattle.blocks.proofs.Corrects.{BlocksLeft}
use Rattle.blocks.proofs.correct_blocks.Given as goal

abbrev pub invariant-loop-k : goal.invariant-loop-k
invariant-loop-k l = BlocksLeft l.flags (shapes l.row) 0 l.initial.stream (behind l.k l.row) l.at l.total l.stream

abbrev pub decreases-loop-k : goal.decreases-loop-k
decreases-loop-k l = 3 - l.k
