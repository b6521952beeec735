use Rattle.general.proofs.Names.{◌≤◌, ◌-◌}
use Rattle.field.specs.Table.{poly_of}
use Rattle.reed_solomon.specs.Inner.{ValuesAt}
use Rattle.comparison.proofs.places.search_often.Given as goal

abbrev pub invariant-loop-k : goal.invariant-loop-k
invariant-loop-k l = ValuesAt (poly_of l.field) l.f l.l l.n l.e × (l.k ≤ l.again)

abbrev pub decreases-loop-k : goal.decreases-loop-k
decreases-loop-k l = l.again - l.k
