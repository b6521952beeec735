use Rattle.information.specs.Information.{product_from, gf16_mul}
use Rattle.general.proofs.Names.{◌-◌, ◌<◌, ◌≤◌, ◌≡◌}
use Rattle.information.proofs.gf16_mul.Given as goal

abbrev pub invariant-loop-i : goal.invariant-loop-i
invariant-loop-i l = (l.p < 16) × (l.a < 16) × (l.b < 16) × (l.i ≤ 4) × (product_from (4 - l.i) l.p l.a l.b ≡ gf16_mul l.x l.y)

abbrev pub decreases-loop-i : goal.decreases-loop-i
decreases-loop-i l = 4 - l.i
