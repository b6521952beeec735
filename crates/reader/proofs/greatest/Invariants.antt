use Rattle.general.proofs.Names.{◌≤◌, ◌-◌, length}
use Rattle.reader.proofs.Bytes.{GreatestByteUpTo}
use Rattle.reader.proofs.greatest.Given as goal

abbrev pub invariant-loop-i : goal.invariant-loop-i
invariant-loop-i l = GreatestByteUpTo l.square l.i l.top × (l.i ≤ length l.square)

abbrev pub decreases-loop-i : goal.decreases-loop-i
decreases-loop-i l = length l.square - l.i
