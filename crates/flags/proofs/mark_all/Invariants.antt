use Rattle.general.proofs.Names.{◌≡◌, ◌-◌, ◌≤◌, length, take}
use Rattle.symbol.specs.Layout.{data_modules}
use Rattle.flags.specs.Inner.{FlagsUpTo}
use Rattle.flags.proofs.mark_all.Given as goal

abbrev pub invariant-loop-i : goal.invariant-loop-i
invariant-loop-i l = FlagsUpTo l.kinds l.square l.i l.flags × (l.p ≡ data_modules (take l.i l.kinds)) × (l.i ≤ length l.square) × (length l.flags ≡ length l.initial.flags)

abbrev pub decreases-loop-i : goal.decreases-loop-i
decreases-loop-i l = length l.square - l.i
