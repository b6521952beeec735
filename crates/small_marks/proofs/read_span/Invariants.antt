use Rattle.placement.specs.Walk.{FewPending}
use Rattle.small_marks.specs.Open.{Spans}
use Rattle.bits.specs.Bits.{low_bits}
use Rattle.general.proofs.Names.{length, ◌≡◌, ◌-◌, ◌≤◌}
use Rattle.small_marks.proofs.read_span.Given as goal

abbrev pub invariant-loop-r : goal.invariant-loop-r
invariant-loop-r l = FewPending l.r × (l.initial.r.column ≤ l.r.column) × (l.r.column ≤ l.to) × Spans l.square (low_bits 27 l.mask) l.initial.out l.out l.initial.r l.r
    × (length l.out ≡ length l.initial.out)

abbrev pub decreases-loop-r : goal.decreases-loop-r
decreases-loop-r l = l.to - l.r.column
