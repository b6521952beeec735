-- What inner functions say: the number at a bit position of the data (SPECIFICATION 8.1). The contracts of operations do not cite it.
use Rattle.std.specs.Prelude.{cond, List, ℕ, ◌*◌, ltb, length, drop}
use Rattle.bits.specs.Bits.{bits_of, read_bits}
use Rattle.bits.specs.declared.Word.{Word}
use Rattle.bits.specs.declared.Word.TheVariants.{Cut}

-- the number that the n bits from a position on say, where there are so many; no data have more than 4,096 bytes, no value more than 21 bits
unfoldable pub read_at : List ℕ → ℕ → ℕ → Word
read_at s at n = cond (ltb 4096 (length s)) Cut (cond (ltb (length s * 8) at) Cut (cond (ltb 21 n) Cut (read_bits n (drop at (bits_of s)))))
