-- `unpack` ends, since it goes up through the buffer.
use Rattle.std.proofs.Common.{length, ◌-◌}
use Rattle.replay_squares.proofs.unpack.Given as goal

abbrev pub decreases-loop-i : goal.decreases-loop-i
decreases-loop-i l = length l.initial.buffer - l.i
