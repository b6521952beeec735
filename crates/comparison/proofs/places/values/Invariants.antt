use Rattle.general.proofs.Names.{◌≤◌, ◌-◌}
use Rattle.field.specs.Table.{poly_of}
use Rattle.reed_solomon.specs.Places.{locator_at}
use Rattle.general.specs.Each.{Each}
use Rattle.comparison.proofs.places.values.Given as goal

abbrev pub invariant-loop-d : goal.invariant-loop-d
invariant-loop-d l = Each (λ k x. locator_at (poly_of l.field) l.f l.l k) l.d l.initial.e l.e × (l.d ≤ l.n)

abbrev pub decreases-loop-d : goal.decreases-loop-d
decreases-loop-d l = l.n - l.d
