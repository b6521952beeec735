use Rattle.general.proofs.Names.{◌≡◌, ◌*◌, ◌-◌, length}
use Rattle.segments.specs.Segments.{double_byte_of}
use Rattle.segments.specs.Positions.{double_byte_at}
use Rattle.segments.proofs.Turns.{Remains}
use Rattle.segments.proofs.gb18030.double_byte.Given as goal

abbrev pub invariant-loop-w : goal.invariant-loop-w
invariant-loop-w l = (length l.out ≡ length l.initial.out) × Remains 15 (double_byte_at l.s l.from l.to l.initial.out) l.s l.from l.to l.at l.n l.out double_byte_of

abbrev pub decreases-loop-w : goal.decreases-loop-w
decreases-loop-w l = 8 * length l.s - l.at
