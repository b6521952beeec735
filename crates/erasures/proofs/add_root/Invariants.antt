use Rattle.general.proofs.Names.{◌≤◌, ◌+◌}
use Rattle.field.specs.Field.{power}
use Rattle.field.specs.Table.{poly_of}
use Rattle.general.proofs.Each.{Above}
use Rattle.erasures.proofs.Rooting.{rooted_at}
use Rattle.erasures.proofs.add_root.Given as goal

abbrev pub invariant-loop-i : goal.invariant-loop-i
invariant-loop-i l = Above (rooted_at (poly_of l.field) (power (poly_of l.field) l.d) l.initial.f) l.i (l.l + 2) l.initial.f l.f × (1 ≤ l.i) × (l.i ≤ l.l + 2)

abbrev pub decreases-loop-i : goal.decreases-loop-i
decreases-loop-i l = l.i
