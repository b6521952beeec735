-- What only inner functions use. Nobody has to believe it.
use Rattle.std.specs.Prelude.{Bool, List, [], ◌∷◌, ℕ, ◌+◌, ◌-◌, ◌*◌, ◌<◌, ◌≤◌, leb, get_or}
use Rattle.block_table.specs.Blocks.{Shape, size}

-- each block has data and parity, and at most 255 codewords
pub data Sound : List Shape → Type 0 where
  none : Sound []
  more : {b : Shape} {bs : List Shape} → 0 < b.info → 0 < b.parity → size b ≤ 255 → Sound bs → Sound (b ∷ bs)

-- by a table of the data codewords of all versions and levels, those of a version and level are enough for so many bits
abbrev pub enough : List ℕ → ℕ → ℕ → ℕ → Bool
enough t level bits v = leb bits (8 * get_or t (4 * (v - 1) + level) 0)
