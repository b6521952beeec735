-- SPECIFICATION 7 (han_xin.rs: `BLOCKS`): the rows of the block table, the rule of a row, and how a stream is cut into blocks.
use Rattle.std.specs.Prelude.{Bool, true, ◌&&◌, ℕ, ◌+◌, ◌-◌, ◌*◌, eqb, ltb, leb, take, drop, get_or, replicate}
use mathlib.Core.List.{List, [], ◌∷◌, ◌++◌, foldr, flat_map, zip_with}
use Rattle.symbol.specs.Layout.{layout_of, data_modules}
use Rattle.block_table.specs.Table.{blocks, totals}

-- a version's codewords in all
unfoldable pub total_of : ℕ → ℕ
total_of v = get_or totals (v - 1) 0

-- the row of a version and level
unfoldable pub row_of : ℕ → ℕ → List ℕ
row_of v level = take 9 (drop (9 * (4 * (v - 1) + level)) blocks)

-- The blocks of a row (7.2).

-- a block has so many data codewords, then so many of parity
pub record Shape : Type 0 where
  pub info : ℕ
  pub parity : ℕ

abbrev pub size : Shape → ℕ
size b = b.info + b.parity

-- a batch is a count of blocks of one shape
unfoldable pub batch : ℕ → ℕ → ℕ → List Shape
batch n d p = replicate n (record { info = d; parity = p })

-- a row has three batches
unfoldable pub shapes : List ℕ → List Shape
shapes r = batch (get_or r 0 0) (get_or r 1 0) (get_or r 2 0) ++ (batch (get_or r 3 0) (get_or r 4 0) (get_or r 5 0) ++ batch (get_or r 6 0) (get_or r 7 0) (get_or r 8 0))

unfoldable pub shapes_of : ℕ → ℕ → List Shape
shapes_of v level = shapes (row_of v level)

-- the codewords, and the data codewords, of all blocks
unfoldable pub total_size : List Shape → ℕ
total_size bs = foldr (λ b n. size b + n) 0 bs

unfoldable pub total_data : List Shape → ℕ
total_data bs = foldr (λ b n. b.info + n) 0 bs

-- The rule of a row (7.3): 0 < parity < length ≤ 255 in each block, and the lengths add up to the total.

unfoldable pub block_holds : Shape → Bool
block_holds b = ltb 0 b.parity && (ltb b.parity (size b) && leb (size b) 255)

unfoldable pub row_holds : List Shape → ℕ → Bool
row_holds bs total = foldr (λ b r. block_holds b && r) true bs && eqb (total_size bs) total

-- refusal 1 (7.4): a version and level whose row breaks the rule, or a version with too few data modules
unfoldable pub has_blocks : ℕ → ℕ → Bool
has_blocks v level = row_holds (shapes_of v level) (total_of v) && leb (8 * total_of v) (data_modules (layout_of v))

-- The blocks of a stream (7.5).

-- each block is a stretch of the stream, one behind the other
unfoldable pub cut : List Shape → List ℕ → List (List ℕ)
cut [] s = []
cut (b ∷ bs) s = take (size b) s ∷ cut bs (drop (size b) s)

unfoldable pub joined : List (List ℕ) → List ℕ
joined ws = flat_map (λ w. w) ws

-- the data parts of blocks, joined in block order
unfoldable pub data_parts : List Shape → List (List ℕ) → List ℕ
data_parts bs ws = joined (zip_with (λ b w. take b.info w) bs ws)

-- and back: data, cut into the data parts of the blocks
unfoldable pub cut_data : List Shape → List ℕ → List (List ℕ)
cut_data [] d = []
cut_data (b ∷ bs) d = take b.info d ∷ cut_data bs (drop b.info d)
