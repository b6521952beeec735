use Rattle.general.proofs.Names.{◌≤◌, ◌-◌}
use Rattle.field.specs.Table.{poly_of}
use Rattle.erasures.specs.Inner.{Modified}
use Rattle.erasures.proofs.modified.Given as goal

abbrev pub invariant-loop-j : goal.invariant-loop-j
invariant-loop-j l = Modified (poly_of l.field) l.s l.g l.f l.j l.t × (l.j ≤ l.m)

abbrev pub decreases-loop-j : goal.decreases-loop-j
decreases-loop-j l = l.m - l.j
