use Rattle.general.proofs.Names.{◌≤◌, ◌-◌}
use Rattle.field.specs.Table.{poly_of}
use Rattle.reed_solomon.specs.Inner.{Errors}
use Rattle.reed_solomon.proofs.errors.magnitudes.Given as goal

abbrev pub invariant-loop-d : goal.invariant-loop-d
invariant-loop-d l = Errors (poly_of l.field) l.first l.s l.f l.l l.d l.initial.e l.e × (l.d ≤ l.n)

abbrev pub decreases-loop-d : goal.decreases-loop-d
decreases-loop-d l = l.n - l.d
