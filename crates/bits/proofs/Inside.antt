-- Within the data, the bit reader gives what the bits from its position on say. Assumes nothing.
use Rattle.general.proofs.Names.{◌≡◌, List, ℕ, ◌*◌, ◌≤◌, arith, le-ltb, length, drop}
use Rattle.bits.specs.Bits.{bits_of, read_bits}
use Rattle.bits.specs.Read.{read_at}

pub read_inside : (s : List ℕ) (at n : ℕ) → length s ≤ 4096 → at ≤ 8 * length s → n ≤ 21 → read_at s at n ≡ read_bits n (drop at (bits_of s))
unfolding read_at
read_inside s at n h k l = simp (le-ltb 4096 (length s) h, le-ltb (length s * 8) at (omega arith), le-ltb 21 n l)
