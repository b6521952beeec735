use Rattle.placement.specs.Walk.{FewPending, ReadsColumns}
use Rattle.general.proofs.Names.{length, ◌≡◌, ◌-◌, ◌≤◌}
use Rattle.information.specs.Inner.{lowest}
use Rattle.placement.proofs.read_row.Given as goal

abbrev pub invariant-loop-r : goal.invariant-loop-r
invariant-loop-r l = FewPending l.r × (l.r.column ≤ length l.kinds) × ReadsColumns l.kinds (lowest l.square) l.row l.initial.out l.out l.initial.r l.r × (length l.out ≡ length l.initial.out)

abbrev pub decreases-loop-r : goal.decreases-loop-r
decreases-loop-r l = length l.kinds - l.r.column
