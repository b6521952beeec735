-- What the functions of this crate say of each other. Nobody has to believe it.
use Rattle.std.specs.Prelude.{◌≡◌, List, ℕ, ◌+◌, ◌-◌, ◌*◌, ◌/◌, ◌%◌, ◌<◌, length, get_or}
use Rattle.std.specs.Int.Bits.{bit_xor, bit_and}
use Rattle.codewords.specs.Codewords.{mask_at}

-- what a number of at most 192 is multiplied by in place of a division by j; 1 has no such factor below 2^16, and `rest` mends that
unfoldable pub inverse : ℕ → ℕ
inverse j = 65535 / j + 1 - 1 / j

unfoldable pub rest : ℕ → ℕ
rest j = j % 3 + 1 / j

-- the bits of j in the quotient of a by j
abbrev pub multiple_of : ℕ → ℕ → ℕ → ℕ
multiple_of a factor j = bit_and (a * factor / 65536) j

-- mask 3 at i and j, from their factors and rests
abbrev pub three_of : ℕ → ℕ → ℕ → ℕ → ℕ → ℕ → ℕ
three_of i j fi fj ri rj = bit_xor (bit_xor (bit_xor (bit_xor (i + ri + 1) j) rj) (multiple_of i fj j)) (multiple_of j fi i) % 2

-- number, factor and rest of a column
pub record Column (table : List ℕ) (c : ℕ) : Type 0 where
  pub number_is : get_or table c 0 ≡ c + 1
  pub factor_is : get_or table (192 + c) 0 ≡ inverse (c + 1)
  pub rest_is : get_or table (384 + c) 0 ≡ rest (c + 1)

-- what a mask's rows are taken from, for the first n columns: three rows of masks 1 and 2, the columns' numbers of mask 3
pub record Columns (mask n : ℕ) (table : List ℕ) : Type 0 where
  pub size : length table ≡ 576
  pub rows : 0 < mask → mask < 3 → (k c : ℕ) → k < 3 → c < n → get_or table (192 * k + c) 0 ≡ mask_at mask (k + 1) (c + 1)
  pub column : 2 < mask → (c : ℕ) → c < n → Column table c

-- a buffer for the mask of a row: 192 bits, for mask 0 none of them set
pub record Row (mask : ℕ) (row : List ℕ) : Type 0 where
  pub size : length row ≡ 192
  pub small : (k : ℕ) → get_or row k 0 < 2
  pub none : mask ≡ 0 → (k : ℕ) → get_or row k 0 ≡ 0
