use Rattle.general.proofs.Names.{◌-◌}
use Rattle.queue.proofs.Loops.{AmongFrom}
use Rattle.queue.proofs.is_waiting.Given as goal

abbrev pub invariant-loop-i : goal.invariant-loop-i
invariant-loop-i l = AmongFrom l.state l.n l.head l.i

abbrev pub decreases-loop-i : goal.decreases-loop-i
decreases-loop-i l = l.n - l.i
