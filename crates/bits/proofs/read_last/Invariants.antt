use Rattle.general.proofs.Names.{◌≡◌, ◌-◌, ◌≤◌}
use Rattle.bits.proofs.Window.{window}
use Rattle.bits.proofs.read_last.Given as goal

abbrev pub invariant-loop-i : goal.invariant-loop-i
invariant-loop-i l = (l.first ≤ l.i) × (l.i ≤ l.last) × (l.v ≡ window l.s l.first (l.i - l.first))

abbrev pub decreases-loop-i : goal.decreases-loop-i
decreases-loop-i l = l.last - l.i
