use Rattle.codewords.proofs.Interleave.{MoveStart}
use Rattle.general.proofs.Names.{true, ◌-◌}
use Rattle.codewords.proofs.store_start.Given as goal

abbrev pub invariant-loop-p : goal.invariant-loop-p
invariant-loop-p l = MoveStart true l.total l.codewords l.initial.out l.out l.start l.n l.p

abbrev pub decreases-loop-p : goal.decreases-loop-p
decreases-loop-p l = l.total - l.p
