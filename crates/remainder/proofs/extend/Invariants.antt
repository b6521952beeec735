use Rattle.general.proofs.Names.{◌-◌, ◌≤◌}
use Rattle.remainder.specs.Words.{Extended}
use Rattle.remainder.proofs.extend.Given as goal

abbrev pub invariant-loop-f : goal.invariant-loop-f
invariant-loop-f l = Extended l.at l.n l.f l.r l.initial.t l.t × (l.f ≤ l.n)

abbrev pub decreases-loop-f : goal.decreases-loop-f
decreases-loop-f l = l.n - l.f
