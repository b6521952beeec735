use Rattle.general.proofs.Names.{◌≡◌, ◌-◌, ◌≤◌, length, drop, paste}
use Rattle.blocks.proofs.copy.Given as goal

abbrev pub invariant-loop-i : goal.invariant-loop-i
invariant-loop-i l = (l.i ≤ l.n) × (length l.dst ≡ length l.initial.dst) × (l.dst ≡ paste l.initial.dst l.to (drop l.from l.src) l.i)

abbrev pub decreases-loop-i : goal.decreases-loop-i
decreases-loop-i l = l.n - l.i
