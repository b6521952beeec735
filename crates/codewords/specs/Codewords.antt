-- SPECIFICATION 6 (han_xin.rs: `masked`, first half of `decode_data`): from a square to its stream of codewords, and back.
use Rattle.std.specs.Prelude.{List, [], ◌∷◌, map, ℕ, zero, suc, ◌+◌, ◌-◌, ◌*◌, ◌/◌, ◌%◌, length, get_or, replicate}
use Rattle.std.specs.Int.Bits.{bit_xor}
use Rattle.general.specs.Lists.{each}
use Rattle.bits.specs.Bits.{store_at}

-- Masks (6.1): 1 where the module is inverted.

-- the mask at i = row + 1 and j = column + 1
unfoldable pub mask_at : ℕ → ℕ → ℕ → ℕ
mask_at zero i j = 0
mask_at (suc zero) i j = 1 - (i + j) % 2
mask_at (suc (suc zero)) i j = 1 - ((i + j) % 3 + j % 3) % 2
mask_at (suc (suc (suc mask))) i j = 1 - (i % j + j % i + i % 3 + j % 3) % 2

-- the mask at a place of a square of side s
unfoldable pub mask_bit : ℕ → ℕ → ℕ → ℕ
mask_bit s mask at = mask_at mask (at / s + 1) (at % s + 1)

-- Placement (6.2, 6.3): kinds are those of the layout, 0 data, 1 information, 2 light, 3 dark; m is the mask by place, i the first place.

-- the data modules of a square, row by row, unmasked
unfoldable pub data_bits : (ℕ → ℕ) → ℕ → List ℕ → List ℕ → List ℕ
data_bits m i [] sq = []
data_bits m i (k ∷ ks) [] = []
data_bits m i (zero ∷ ks) (b ∷ sq) = bit_xor b (m i) ∷ data_bits m (suc i) ks sq
data_bits m i (suc k ∷ ks) (b ∷ sq) = data_bits m (suc i) ks sq

-- a square of data bits: leftover data modules are written as zero bits under the mask; information modules are light until the word is written
unfoldable pub placed : (ℕ → ℕ) → ℕ → List ℕ → List ℕ → List ℕ
placed m i [] ds = []
placed m i (zero ∷ ks) [] = bit_xor 0 (m i) ∷ placed m (suc i) ks []
placed m i (zero ∷ ks) (d ∷ ds) = bit_xor d (m i) ∷ placed m (suc i) ks ds
placed m i (suc zero ∷ ks) ds = 0 ∷ placed m (suc i) ks ds
placed m i (suc (suc zero) ∷ ks) ds = 0 ∷ placed m (suc i) ks ds
placed m i (suc (suc (suc k)) ∷ ks) ds = 1 ∷ placed m (suc i) ks ds

-- Interleave (6.4): the codewords of a square go to stream places 0, 13, 26, .., then 1, 14, .. up to start 12.

-- the stream place of each codeword: from each start those below the total, 13 apart
unfoldable pub order : ℕ → List ℕ
order total = each 13 (λ start. each ((total + 12 - start) / 13) (λ i. (start + 13 * i) ∷ []))

-- the stream of the codewords of a square, and the codewords of a stream
unfoldable pub to_stream : List ℕ → List ℕ
to_stream cs = store_at (order (length cs)) cs (replicate (length cs) 0)

unfoldable pub from_stream : List ℕ → List ℕ
from_stream s = map (λ p. get_or s p 0) (order (length s))
