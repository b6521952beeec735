use Rattle.general.proofs.Names.{◌≤◌, ◌-◌}
use Rattle.reed_solomon.specs.Inner.{copied}
use Rattle.general.specs.Each.{Each}
use Rattle.receipts.proofs.put.Given as goal

abbrev pub invariant-loop-i : goal.invariant-loop-i
invariant-loop-i l = Each (copied l.bytes) l.i l.initial.receipt l.receipt × (l.i ≤ 12)

abbrev pub decreases-loop-i : goal.decreases-loop-i
decreases-loop-i l = 12 - l.i
