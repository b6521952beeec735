use Rattle.general.proofs.Names.{◌≤◌}
use Rattle.field.specs.Table.{poly_of}
use Rattle.reed_solomon.proofs.Massey.{Growing}
use Rattle.reed_solomon.proofs.locator.grow.Given as goal

abbrev pub invariant-loop-i : goal.invariant-loop-i
invariant-loop-i l = Growing (poly_of l.field) l.q l.m l.top l.initial.f l.initial.g l.i l.f l.g × (l.m ≤ l.i) × (l.i ≤ l.top)

abbrev pub decreases-loop-i : goal.decreases-loop-i
decreases-loop-i l = l.i
