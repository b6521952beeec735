use Rattle.general.proofs.Names.{◌-◌, ◌≤◌, get_or}
use Rattle.symbol.specs.Inner.{Stored, drawn}
use Rattle.symbol.proofs.patterns.draw.Given as goal

abbrev pub invariant-loop-i : goal.invariant-loop-i
invariant-loop-i l = Stored (λ j. drawn (get_or l.initial.grid j 0) l.kind) l.from l.i l.initial.grid l.grid × (l.from ≤ l.i) × (l.i ≤ l.to)

abbrev pub decreases-loop-i : goal.decreases-loop-i
decreases-loop-i l = l.to - l.i
