use Rattle.general.proofs.Names.{◌≤◌, ◌-◌}
use Rattle.reed_solomon.specs.Inner.{copied}
use Rattle.general.specs.Each.{Each}
use Rattle.reed_solomon.proofs.locator.copy.Given as goal

abbrev pub invariant-loop-i : goal.invariant-loop-i
invariant-loop-i l = Each (copied l.src) l.i l.initial.dst l.dst × (l.i ≤ l.n)

abbrev pub decreases-loop-i : goal.decreases-loop-i
decreases-loop-i l = l.n - l.i
