use Rattle.drawing.specs.Puts.{pattern_of}
use Rattle.general.proofs.Names.{length, get_or, ◌≡◌, ℕ, ◌-◌, ◌<◌, ◌≤◌}
use Rattle.drawing.proofs.draw.Given as goal

abbrev pub invariant-loop-i : goal.invariant-loop-i
invariant-loop-i l = (l.i ≤ length l.initial.square) × (length l.square ≡ length l.initial.square) × ((k : ℕ) → k < l.i → get_or l.square k 0 ≡ pattern_of (get_or l.kinds k 0))

abbrev pub decreases-loop-i : goal.decreases-loop-i
decreases-loop-i l = length l.initial.square - l.i
