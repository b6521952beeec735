use Rattle.general.proofs.Names.{◌≤◌, ◌-◌}
use Rattle.general.specs.Each.{Each}
use Rattle.parity.specs.Inner.{copied_from}
use Rattle.parity.proofs.division.copy.Given as goal

abbrev pub invariant-loop-i : goal.invariant-loop-i
invariant-loop-i l = Each (copied_from l.k l.src) l.i l.initial.dst l.dst × (l.k ≤ l.i) × (l.i ≤ l.n)

abbrev pub decreases-loop-i : goal.decreases-loop-i
decreases-loop-i l = l.n - l.i
