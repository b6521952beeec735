use Rattle.general.proofs.Names.{◌≡◌, ◌≤◌, ◌-◌, length}
use Rattle.reed_solomon.specs.Inner.{repaired}
use Rattle.general.specs.Each.{Each}
use Rattle.reed_solomon.proofs.errors.add.Given as goal

abbrev pub invariant-loop-k : goal.invariant-loop-k
invariant-loop-k l = Each (repaired (length l.initial.block) l.e) l.k l.initial.block l.block × (l.k ≤ l.n) × (l.n ≡ length l.initial.block)

abbrev pub decreases-loop-k : goal.decreases-loop-k
decreases-loop-k l = l.n - l.k
