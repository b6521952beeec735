use Rattle.block_table.specs.Blocks.{batch}
use Rattle.blocks.specs.Inner.{blocks_in, gathering}
use Rattle.blocks.proofs.Transfers.{TransferLeft}
use Rattle.blocks.proofs.gather_batch.Given as goal

abbrev pub invariant-loop-left : goal.invariant-loop-left
invariant-loop-left l = TransferLeft gathering (blocks_in l.b) l.to l.from l.stream l.initial.out (batch l.left l.b.info l.b.parity) l.into l.at l.out

abbrev pub decreases-loop-left : goal.decreases-loop-left
decreases-loop-left l = l.left
