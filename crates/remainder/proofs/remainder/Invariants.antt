use Rattle.general.proofs.Names.{◌≡◌, ◌-◌, ◌%◌, ◌≤◌}
use Rattle.remainder.specs.Words.{Rows, Left}
use Rattle.remainder.proofs.remainder.Given as goal

abbrev pub invariant-loop-i : goal.invariant-loop-i
invariant-loop-i l = (l.i ≤ l.k) × (l.i % 4 ≡ l.k % 4) × Left (λ x. Rows 0x163 x l.t) l.i l.block l.r

abbrev pub decreases-loop-i : goal.decreases-loop-i
decreases-loop-i l = l.k - l.i
