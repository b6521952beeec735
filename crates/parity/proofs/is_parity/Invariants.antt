use Rattle.general.proofs.Names.{◌≡◌, ℕ, ◌-◌, ◌≤◌, ◌<◌, get_or}
use Rattle.parity.proofs.is_parity.Given as goal

abbrev pub invariant-loop-i : goal.invariant-loop-i
invariant-loop-i l = (l.parity ≤ l.i) × (l.i ≤ 32) × ((k : ℕ) → l.parity ≤ k → k < l.i → get_or l.b k 0 ≡ 0)

abbrev pub decreases-loop-i : goal.decreases-loop-i
decreases-loop-i l = 32 - l.i
