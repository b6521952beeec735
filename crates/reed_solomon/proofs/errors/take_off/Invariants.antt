use Rattle.general.proofs.Names.{◌≡◌, ◌≤◌, ◌-◌, ◌+◌, ◌*◌}
use Rattle.field.specs.Field.{power, mul}
use Rattle.field.specs.Table.{poly_of}
use Rattle.reed_solomon.specs.Inner.{without}
use Rattle.general.specs.Each.{Each}
use Rattle.reed_solomon.proofs.errors.take_off.Given as goal

abbrev pub invariant-loop-j : goal.invariant-loop-j
invariant-loop-j l = Each (without (poly_of l.field) l.first l.y l.d) l.j l.initial.s l.s × (power (poly_of l.field) l.n ≡ mul (poly_of l.field) l.y (power (poly_of l.field) (l.d * (l.first + l.j)))) × (l.n ≤ 255) × (l.j ≤ l.parity)

abbrev pub decreases-loop-j : goal.decreases-loop-j
decreases-loop-j l = l.parity - l.j
