use Rattle.general.proofs.Names.{◌-◌, ◌≤◌}
use Rattle.remainder.specs.Words.{Filling}
use Rattle.remainder.proofs.fill_digit.Given as goal

abbrev pub invariant-loop-b : goal.invariant-loop-b
invariant-loop-b l = Filling l.i l.b l.initial.r l.initial.t l.t l.r × (l.b ≤ 4)

abbrev pub decreases-loop-b : goal.decreases-loop-b
decreases-loop-b l = 4 - l.b
