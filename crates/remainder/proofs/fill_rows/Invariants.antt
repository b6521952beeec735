use Rattle.general.proofs.Names.{◌-◌, ◌≤◌}
use Rattle.remainder.specs.Words.{Filled}
use Rattle.remainder.proofs.fill_rows.Given as goal

abbrev pub invariant-loop-k : goal.invariant-loop-k
invariant-loop-k l = Filled l.k l.initial.r l.t l.r × (l.k ≤ 4)

abbrev pub decreases-loop-k : goal.decreases-loop-k
decreases-loop-k l = 4 - l.k
