use Rattle.general.proofs.Names.{◌≡◌, ◌-◌, ◌≤◌, length}
use Rattle.flags.specs.Inner.{FlagsUpTo}
use Rattle.flags.proofs.mark_group.Given as goal

abbrev pub invariant-loop-i : goal.invariant-loop-i
invariant-loop-i l = FlagsUpTo l.kinds l.square l.i l.flags × (l.start ≤ l.i) × (l.i ≤ l.to) × (length l.flags ≡ length l.initial.flags)

abbrev pub decreases-loop-i : goal.decreases-loop-i
decreases-loop-i l = l.to - l.i
