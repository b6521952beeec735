use Rattle.general.proofs.Names.{◌≡◌, ◌+◌, ◌-◌, ◌≤◌, length}
use Rattle.reed_solomon.specs.Sum.{seq}
use Rattle.reed_solomon.specs.Inner.{zeros_of}
use Rattle.erasure_corrector.proofs.erased.Given as goal

abbrev pub invariant-loop-k : goal.invariant-loop-k
invariant-loop-k l = (l.count + zeros_of l.k (seq l.flags) ≡ l.k) × (l.k ≤ length l.flags)

abbrev pub decreases-loop-k : goal.decreases-loop-k
decreases-loop-k l = length l.flags - l.k
