use Rattle.general.proofs.Names.{◌≡◌, ◌≤◌, ◌-◌, ◌+◌, length, sets}
use Rattle.bits.specs.Bits.{bits_of, low_bits}
use Rattle.bits.proofs.write_last.Given as goal

abbrev pub invariant-loop-i : goal.invariant-loop-i
invariant-loop-i l = (length l.buf ≡ length l.initial.buf) × (l.i ≤ l.n) × (sets (bits_of l.initial.buf) l.at (low_bits l.n l.v) ≡ sets (bits_of l.buf) (l.at + l.i) (low_bits (l.n - l.i) l.v))

abbrev pub decreases-loop-i : goal.decreases-loop-i
decreases-loop-i l = l.n - l.i
