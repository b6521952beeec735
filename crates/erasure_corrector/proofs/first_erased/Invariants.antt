use Rattle.general.proofs.Names.{◌≤◌, ◌-◌, length}
use Rattle.erasure_corrector.proofs.first_erased.Given as goal

abbrev pub invariant-loop-k : goal.invariant-loop-k
invariant-loop-k l = l.k ≤ length l.flags

abbrev pub decreases-loop-k : goal.decreases-loop-k
decreases-loop-k l = length l.flags - l.k
