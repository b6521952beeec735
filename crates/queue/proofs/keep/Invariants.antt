use Rattle.general.proofs.Names.{◌≤◌, ◌+◌, ◌-◌}
use Rattle.general.specs.Each.{Each}
use Rattle.queue.specs.Inner.{byte_before}
use Rattle.queue.proofs.keep.Given as goal

abbrev pub invariant-loop-i : goal.invariant-loop-i
invariant-loop-i l = Each (λ k x. byte_before l.end l.initial.state (l.from + k)) l.i l.initial.state l.state × (l.i ≤ 12)

abbrev pub decreases-loop-i : goal.decreases-loop-i
decreases-loop-i l = 12 - l.i
