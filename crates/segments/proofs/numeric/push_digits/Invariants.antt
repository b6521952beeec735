use Rattle.general.proofs.Names.{◌≡◌, ◌≤◌, ◌-◌, ◌+◌, length, sets}
use Rattle.segments.specs.Segments.{digits}
use Rattle.segments.proofs.numeric.push_digits.Given as goal

abbrev pub invariant-loop-i : goal.invariant-loop-i
invariant-loop-i l = (length l.out ≡ length l.initial.out) × (l.i ≤ l.k) × (sets l.initial.out l.n (digits l.k l.v) ≡ sets l.out (l.n + l.i) (digits (l.k - l.i) l.v))

abbrev pub decreases-loop-i : goal.decreases-loop-i
decreases-loop-i l = l.k - l.i
