-- `all` ends, since each record is behind the one before it.
use Rattle.std.proofs.Common.{length, ◌-◌, ◌≤◌}
use Rattle.replay_squares.proofs.all.Given as goal

abbrev pub invariant-loop-i : goal.invariant-loop-i
invariant-loop-i g l = l.i ≤ length l.records

abbrev pub decreases-loop-i : goal.decreases-loop-i
decreases-loop-i g l = length l.records - l.i
