-- What the functions of this crate say of each other. Nobody has to believe it.
use Rattle.std.specs.Prelude.{◌≡◌, List, ℕ, ◌+◌, ◌*◌, ◌<◌, ◌≤◌, length, get_or}
use Rattle.bits.specs.Bits.{low_bits}
use Rattle.codewords.specs.Codewords.{mask_at}

-- the masks of the rows of versions 1 to 3: 27 numbers for each mask, each with 27 bits, one for each column
pub record OpenRows (rows : List ℕ) : Type 0 where
  pub size : length rows ≡ 108
  pub is : (mask i c : ℕ) → mask ≤ 3 → i < 27 → c < 27 → get_or (low_bits 27 (get_or rows (27 * mask + i) 0)) c 0 ≡ mask_at mask (i + 1) (c + 1)
