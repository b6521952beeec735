use Rattle.general.proofs.Names.{◌≤◌, ◌-◌}
use Rattle.field.specs.Table.{poly_of}
use Rattle.reed_solomon.specs.Inner.{without_all}
use Rattle.general.specs.Each.{Each}
use Rattle.reed_solomon.proofs.errors.take_off_all.Given as goal

abbrev pub invariant-loop-k : goal.invariant-loop-k
invariant-loop-k l = Each (without_all (poly_of l.field) l.first l.n l.e l.k) l.parity l.initial.s l.s × (l.k ≤ l.n)

abbrev pub decreases-loop-k : goal.decreases-loop-k
decreases-loop-k l = l.n - l.k
