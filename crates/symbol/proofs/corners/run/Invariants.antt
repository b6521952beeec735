use Rattle.general.proofs.Names.{◌-◌, ◌≤◌}
use Rattle.symbol.specs.Inner.{Stored}
use Rattle.symbol.proofs.corners.run.Given as goal

abbrev pub invariant-loop-i : goal.invariant-loop-i
invariant-loop-i l = Stored (λ i. l.kind) l.from l.i l.initial.out l.out × (l.from ≤ l.i) × (l.i ≤ l.to)

abbrev pub decreases-loop-i : goal.decreases-loop-i
decreases-loop-i l = l.to - l.i
