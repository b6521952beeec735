-- What the exports for the comparison answer outside the ranges of what they compare. No part of the specification.
use Rattle.std.specs.Prelude.{cond, not, ◌&&◌, ℕ, ◌+◌, leb, ltb, eqb, get_or}
use Rattle.symbol.specs.Version.{is_version}
use Rattle.information.specs.Information.{info_position}
use Rattle.block_table.specs.Blocks.{total_of, row_of}
use Rattle.codewords.specs.Codewords.{mask_at}

-- the codewords in all of a version, or 0
unfoldable pub total_answer : ℕ → ℕ
total_answer v = cond (is_version v) (total_of v) 0

-- number n of the row of a version and level, or 0
unfoldable pub row_answer : ℕ → ℕ → ℕ → ℕ
row_answer v level n = cond (is_version v && (leb level 3 && ltb n 9)) (get_or (row_of v level) n 0) 0

-- the mask at a row and a column below 1,000, or 2
unfoldable pub mask_answer : ℕ → ℕ → ℕ → ℕ
mask_answer mask row column = cond (ltb row 1000 && ltb column 1000) (mask_at mask (row + 1) (column + 1)) 2

-- the place of information bit n in the first (0) or second copy, or 0
unfoldable pub position_answer : ℕ → ℕ → ℕ → ℕ
position_answer s copy n = cond (leb 23 s && (leb s 189 && ltb n 34)) (info_position s (not (eqb copy 0)) n) 0
