use Rattle.general.proofs.Names.{◌≡◌, suc, ◌≤◌, ◌-◌}
use Rattle.field.specs.Table.{poly_of}
use Rattle.field.specs.Field.{mul}
use Rattle.reed_solomon.specs.Sum.{seq, sum}
use Rattle.reed_solomon.proofs.locator.discrepancy.Given as goal

abbrev pub invariant-loop-i : goal.invariant-loop-i
invariant-loop-i l = (l.d ≡ sum (λ k. mul (poly_of l.field) (seq l.f k) (seq l.s (l.r - k))) l.i) × (l.i ≤ suc l.l)

abbrev pub decreases-loop-i : goal.decreases-loop-i
decreases-loop-i l = suc l.l - l.i
