use Rattle.general.proofs.Names.{◌≡◌, ℕ, ◌≤◌, ◌<◌, ◌-◌}
use Rattle.reed_solomon.specs.Sum.{seq}
use Rattle.reed_solomon.proofs.syndromes.clean.Given as goal

abbrev pub invariant-loop-j : goal.invariant-loop-j
invariant-loop-j l = ((k : ℕ) → k < l.j → seq l.s k ≡ 0) × (l.j ≤ l.parity)

abbrev pub decreases-loop-j : goal.decreases-loop-j
decreases-loop-j l = l.parity - l.j
