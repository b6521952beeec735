use Rattle.general.proofs.Names.{◌≡◌, ◌*◌, ◌-◌, length}
use Rattle.segments.specs.Segments.{region_of}
use Rattle.segments.specs.Positions.{region_at}
use Rattle.segments.proofs.Turns.{Remains}
use Rattle.segments.proofs.same_region.Given as goal

abbrev pub invariant-loop-w : goal.invariant-loop-w
invariant-loop-w l = (length l.out ≡ length l.initial.out) × Remains 12 (region_at l.s l.from l.to l.initial.out l.one) l.s l.from l.to l.at l.n l.out (region_of l.one)

abbrev pub decreases-loop-w : goal.decreases-loop-w
decreases-loop-w l = 8 * length l.s - l.at
