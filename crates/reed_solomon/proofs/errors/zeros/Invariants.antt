use Rattle.general.proofs.Names.{◌≡◌, ◌≤◌, ◌-◌}
use Rattle.reed_solomon.specs.Sum.{seq}
use Rattle.reed_solomon.specs.Inner.{zeros_of}
use Rattle.reed_solomon.proofs.errors.zeros.Given as goal

abbrev pub invariant-loop-d : goal.invariant-loop-d
invariant-loop-d l = (l.count ≡ zeros_of l.d (seq l.e)) × (l.count ≤ l.d) × (l.d ≤ l.n)

abbrev pub decreases-loop-d : goal.decreases-loop-d
decreases-loop-d l = l.n - l.d
