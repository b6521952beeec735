use Rattle.general.proofs.Names.{◌≤◌, ◌-◌}
use Rattle.field.specs.Table.{poly_of}
use Rattle.reed_solomon.specs.Inner.{Register}
use Rattle.reed_solomon.proofs.locator.locator.Given as goal

abbrev pub invariant-loop-r : goal.invariant-loop-r
invariant-loop-r l = Register (poly_of l.field) l.s l.r l.f l.g l.at.l l.at.rg l.at.b × (l.r ≤ l.n)

abbrev pub decreases-loop-r : goal.decreases-loop-r
decreases-loop-r l = l.n - l.r
