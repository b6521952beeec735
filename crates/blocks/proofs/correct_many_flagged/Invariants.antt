use Rattle.block_table.specs.Blocks.{batch}
use Rattle.blocks.specs.Inner.{blocks_in}
use Rattle.blocks.proofs.Corrects.{BlocksLeft}
use Rattle.blocks.proofs.correct_many_flagged.Given as goal

abbrev pub invariant-loop-left : goal.invariant-loop-left
invariant-loop-left l = BlocksLeft l.flags (blocks_in l.b) l.from l.initial.stream (batch l.left l.b.info l.b.parity) l.at l.n l.stream

abbrev pub decreases-loop-left : goal.decreases-loop-left
decreases-loop-left l = l.left
