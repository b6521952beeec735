use Rattle.general.proofs.Names.{◌-◌, ◌≤◌}
use Rattle.general.specs.Each.{Each}
use Rattle.parity.specs.Inner.{behind_of}
use Rattle.parity.proofs.division.put_behind.Given as goal

abbrev pub invariant-loop-i : goal.invariant-loop-i
invariant-loop-i l = Each (behind_of l.k l.b) l.i l.initial.block l.block × (l.k ≤ l.i) × (l.i ≤ l.n)

abbrev pub decreases-loop-i : goal.decreases-loop-i
decreases-loop-i l = l.n - l.i
