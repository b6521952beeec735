use Rattle.codewords.proofs.Interleave.{MoveStart}
use Rattle.general.proofs.Names.{false, ◌-◌}
use Rattle.codewords.proofs.collect_start.Given as goal

abbrev pub invariant-loop-p : goal.invariant-loop-p
invariant-loop-p l = MoveStart false l.total l.stream l.initial.out l.out l.start l.n l.p

abbrev pub decreases-loop-p : goal.decreases-loop-p
decreases-loop-p l = l.total - l.p
