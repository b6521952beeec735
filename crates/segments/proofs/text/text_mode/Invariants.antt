use Rattle.general.proofs.Names.{◌≡◌, true, ◌*◌, ◌-◌, length}
use Rattle.segments.specs.Segments.{text_of}
use Rattle.segments.specs.Positions.{text_at}
use Rattle.segments.proofs.Turns.{Remains}
use Rattle.segments.proofs.text.text_mode.Given as goal

abbrev pub invariant-loop-w : goal.invariant-loop-w
invariant-loop-w l = (length l.out ≡ length l.initial.out) × Remains 6 (text_at l.s l.from l.to l.initial.out true) l.s l.from l.to l.at l.n l.out (text_of l.first)

abbrev pub decreases-loop-w : goal.decreases-loop-w
decreases-loop-w l = 8 * length l.s - l.at
