use Rattle.general.proofs.Names.{◌+◌, ◌-◌, ◌*◌, ◌≤◌}
use Rattle.field.specs.Field.{power, mul}
use Rattle.field.specs.Table.{poly_of}
use Rattle.general.specs.Each.{Each}
use Rattle.remainder.proofs.lower.Given as goal

abbrev pub invariant-loop-j : goal.invariant-loop-j
invariant-loop-j l = Each (λ j x. mul (poly_of l.field) x (power (poly_of l.field) (l.n * (l.first + j)))) l.j l.initial.s l.s × (l.j ≤ l.parity)

abbrev pub decreases-loop-j : goal.decreases-loop-j
decreases-loop-j l = l.parity - l.j
