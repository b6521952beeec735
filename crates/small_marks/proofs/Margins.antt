-- The three cases of a margin, one law each. Assumes nothing.
use Rattle.general.proofs.Names.{inl, inr, ℕ, ◌+◌, ◌<◌, ◌≤◌}
use Rattle.small_marks.specs.Open.{Margin, whole, ends}

pub margin_near : (s r : ℕ) → r < 9 → Margin s r 9
margin_near s r h = ends (inl h)

pub margin_far : (s r : ℕ) → s ≤ r + 9 → Margin s r 9
margin_far s r h = ends (inr h)

pub margin_none : (s r : ℕ) → 9 ≤ r → r + 9 < s → Margin s r 0
margin_none s r g h = whole g h
