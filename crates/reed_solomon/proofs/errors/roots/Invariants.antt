use Rattle.general.proofs.Names.{◌≡◌, ◌-◌, ◌%◌}
use Rattle.field.specs.Table.{poly_of}
use Rattle.reed_solomon.specs.Places.{locator_at}
use Rattle.reed_solomon.specs.Inner.{TermsAt}
use Rattle.general.specs.Each.{Each}
use Rattle.reed_solomon.proofs.errors.roots.Given as goal

abbrev pub invariant-loop-d : goal.invariant-loop-d
invariant-loop-d l = TermsAt (poly_of l.field) l.f l.l l.d l.terms × Each (λ d x. locator_at (poly_of l.field) l.f l.l d) l.d l.initial.e l.e × (l.d % 4 ≡ 0)

abbrev pub decreases-loop-d : goal.decreases-loop-d
decreases-loop-d l = l.n - l.d
