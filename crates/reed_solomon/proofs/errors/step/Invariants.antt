use Rattle.general.proofs.Names.{suc, ◌≤◌, ◌-◌}
use Rattle.field.specs.Table.{poly_of}
use Rattle.reed_solomon.specs.Places.{carried}
use Rattle.general.specs.Each.{Each}
use Rattle.reed_solomon.proofs.Terms.{Sums}
use Rattle.reed_solomon.proofs.errors.step.Given as goal

abbrev pub invariant-loop-i : goal.invariant-loop-i
invariant-loop-i l = Sums (poly_of l.field) l.l l.initial.terms l.i l.v.a l.v.b l.v.c l.v.d × Each (λ j x. carried (poly_of l.field) (l.l - j) 4 x) l.i l.initial.terms l.terms × (l.i ≤ suc l.l)

abbrev pub decreases-loop-i : goal.decreases-loop-i
decreases-loop-i l = suc l.l - l.i
