use Rattle.general.proofs.Names.{◌-◌}
use Rattle.queue.proofs.Loops.{CountedTo}
use Rattle.queue.proofs.count.Given as goal

abbrev pub invariant-loop-n : goal.invariant-loop-n
invariant-loop-n l = CountedTo l.state l.n

abbrev pub decreases-loop-n : goal.decreases-loop-n
decreases-loop-n l = 6 - l.n
