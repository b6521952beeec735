use Rattle.general.proofs.Names.{ℕ, ◌-◌, ◌≤◌, ◌<◌, get_or}
use Rattle.flags.proofs.any_unknown.Given as goal

abbrev pub invariant-loop-i : goal.invariant-loop-i
invariant-loop-i l = (k : ℕ) → l.from ≤ k → k < l.i → get_or l.square k 0 ≤ l.seen

abbrev pub decreases-loop-i : goal.decreases-loop-i
decreases-loop-i l = l.to - l.i
