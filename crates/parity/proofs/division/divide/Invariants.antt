use Rattle.general.proofs.Names.{◌≡◌, ◌+◌, ◌≤◌, ◌-◌, length}
use Rattle.field.specs.Table.{poly_of}
use Rattle.reed_solomon.specs.Sum.{seq}
use Rattle.parity.specs.Inner.{Divided}
use Rattle.parity.proofs.division.divide.Given as goal

abbrev pub invariant-loop-i : goal.invariant-loop-i
invariant-loop-i l = (length l.w ≡ length l.initial.w) × Divided (poly_of l.field) l.d (seq l.g) (l.k + l.d) l.i (seq l.initial.w) (seq l.w) × (l.i ≤ l.k)

abbrev pub decreases-loop-i : goal.decreases-loop-i
decreases-loop-i l = l.k - l.i
