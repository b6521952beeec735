use Rattle.general.proofs.Names.{◌≤◌, ◌-◌}
use Rattle.field.specs.Table.{poly_of}
use Rattle.erasures.specs.Inner.{Rooted}
use Rattle.erasures.proofs.add_roots.Given as goal

abbrev pub invariant-loop-k : goal.invariant-loop-k
invariant-loop-k l = Rooted (poly_of l.field) l.n l.flags l.k l.l l.initial.f l.at l.f × (l.k ≤ l.n)

abbrev pub decreases-loop-k : goal.decreases-loop-k
decreases-loop-k l = l.n - l.k
