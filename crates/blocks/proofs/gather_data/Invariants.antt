use Rattle.general.proofs.Names.{◌-◌}
use Rattle.block_table.specs.Blocks.{shapes}
use Rattle.blocks.specs.Inner.{behind, gathering}
use Rattle.blocks.proofs.Transfers.{TransferLeft}
use Rattle.blocks.proofs.gather_data.Given as goal

abbrev pub invariant-loop-k : goal.invariant-loop-k
invariant-loop-k l = TransferLeft gathering (shapes l.row) 0 0 l.stream l.initial.out (behind l.k l.row) l.n l.from l.out

abbrev pub decreases-loop-k : goal.decreases-loop-k
decreases-loop-k l = 3 - l.k
