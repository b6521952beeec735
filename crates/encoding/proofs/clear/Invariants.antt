use Rattle.general.proofs.Names.{◌≡◌, ◌-◌, ◌≤◌, length}
use Rattle.encoding.proofs.Zeros.{cleared}
use Rattle.encoding.proofs.clear.Given as goal

abbrev pub invariant-loop-i : goal.invariant-loop-i
invariant-loop-i l = (length l.buf ≡ length l.initial.buf) × (l.from ≤ l.i) × (l.i ≤ length l.initial.buf) × (l.buf ≡ cleared l.initial.buf l.from l.i)

abbrev pub decreases-loop-i : goal.decreases-loop-i
decreases-loop-i l = length l.initial.buf - l.i
