use Rattle.general.proofs.Names.{◌-◌, ◌≤◌, replicate}
use Rattle.general.specs.Each.{Each}
use Rattle.remainder.specs.Words.{byte_at}
use Rattle.remainder.proofs.bytes.Given as goal

abbrev pub invariant-loop-i : goal.invariant-loop-i
invariant-loop-i l = Each (λ i x. byte_at l.r i) l.i (replicate 32 0) l.s × (l.i ≤ l.k)

abbrev pub decreases-loop-i : goal.decreases-loop-i
decreases-loop-i l = l.k - l.i
