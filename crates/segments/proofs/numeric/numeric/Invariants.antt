use Rattle.general.proofs.Names.{◌≡◌, ◌<◌, ◌*◌, ◌-◌, length}
use Rattle.segments.specs.Segments.{groups_of}
use Rattle.segments.specs.Positions.{numeric_at}
use Rattle.segments.proofs.Turns.{Remains}
use Rattle.segments.proofs.numeric.numeric.Given as goal

abbrev pub invariant-loop-w : goal.invariant-loop-w
invariant-loop-w l = (length l.out ≡ length l.initial.out) × (l.p < 1000) × Remains 10 (numeric_at l.s l.from l.to l.initial.out) l.s l.from l.to l.at l.n l.out (groups_of l.p)

abbrev pub decreases-loop-w : goal.decreases-loop-w
decreases-loop-w l = 8 * length l.s - l.at
