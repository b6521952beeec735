use Rattle.general.proofs.Names.{◌≡◌, ◌≤◌, ◌*◌, ◌-◌, length}
use Rattle.segments.specs.Positions.{bytes_run_at, bytes_run}
use Rattle.segments.proofs.Turns.{Remains}
use Rattle.segments.proofs.bytes_run.Given as goal

abbrev pub invariant-loop-i : goal.invariant-loop-i
invariant-loop-i l = (length l.out ≡ length l.initial.out) × (l.i ≤ l.k) × Remains 8 (bytes_run_at l.s l.from l.to l.initial.out l.k) l.s l.from l.to l.at l.n l.out (bytes_run (l.k - l.i))

abbrev pub decreases-loop-i : goal.decreases-loop-i
decreases-loop-i l = 8 * length l.s - l.at
