use Rattle.general.proofs.Names.{◌≤◌, ◌-◌}
use Rattle.field.specs.Table.{poly_of}
use Rattle.reed_solomon.specs.Inner.{added}
use Rattle.general.specs.Each.{Each}
use Rattle.reed_solomon.proofs.locator.add_moved.Given as goal

abbrev pub invariant-loop-i : goal.invariant-loop-i
invariant-loop-i l = Each (added (poly_of l.field) l.q l.m l.g) l.i l.initial.f l.f × (l.m ≤ l.i) × (l.i ≤ l.top)

abbrev pub decreases-loop-i : goal.decreases-loop-i
decreases-loop-i l = l.top - l.i
