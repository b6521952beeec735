-- Both sums stay below the modulus, and the loop goes up through the bytes.
use Rattle.std.proofs.Common.{length, ◌-◌, ◌<◌}
use Rattle.replay_symbol.proofs.sums.Given as goal

abbrev pub invariant-loop-i : goal.invariant-loop-i
invariant-loop-i l = (l.a < 65521) × (l.b < 65521)

abbrev pub decreases-loop-i : goal.decreases-loop-i
decreases-loop-i l = length l.bytes - l.i
