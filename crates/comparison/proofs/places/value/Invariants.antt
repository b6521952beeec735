use Rattle.general.proofs.Names.{◌≡◌, suc, ◌-◌, ◌≤◌}
use Rattle.field.specs.Field.{power}
use Rattle.field.specs.Table.{poly_of}
use Rattle.reed_solomon.specs.Sum.{seq, horner}
use Rattle.comparison.proofs.places.value.Given as goal

abbrev pub invariant-loop-i : goal.invariant-loop-i
invariant-loop-i l = (l.v ≡ horner (poly_of l.field) (seq l.f) (power (poly_of l.field) l.d) l.i) × (l.i ≤ suc l.l)

abbrev pub decreases-loop-i : goal.decreases-loop-i
decreases-loop-i l = suc l.l - l.i
