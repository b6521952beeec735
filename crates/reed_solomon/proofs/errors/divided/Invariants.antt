use Rattle.general.proofs.Names.{◌≡◌, ◌≤◌, ◌-◌, ◌%◌}
use Rattle.field.specs.Table.{poly_of}
use Rattle.reed_solomon.proofs.Magnitudes.{Dividing}
use Rattle.reed_solomon.proofs.errors.divided.Given as goal

abbrev pub invariant-loop-j : goal.invariant-loop-j
invariant-loop-j l = Dividing (poly_of l.field) l.s l.f l.l l.d l.j l.q.m l.q.num l.q.den × (l.j % 2 ≡ 0) × (l.j ≤ l.l)

abbrev pub decreases-loop-j : goal.decreases-loop-j
decreases-loop-j l = l.l - l.j
