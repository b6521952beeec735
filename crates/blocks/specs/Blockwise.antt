-- SPECIFICATION 7.5 and 11.3: each block of a stream corrected by itself, first to last, and each block of data given its parity. The
-- field is that of 163 hex, the first root α^1.
use Rattle.std.specs.Prelude.{cond, ℕ, ◌+◌, eqb, take, drop, get_or}
use Rattle.std.proofs.Math.Option
use mathlib.Core.List.{List, [], ◌∷◌, ◌++◌, map, foldr, zip_with}
use Rattle.reed_solomon.specs.Block.{distance, parity_of}
use Rattle.corrector.specs.Correct.{BlockOutcome}
use Rattle.erasure_corrector.specs.Erased.{correct_erased_of}
use Rattle.block_table.specs.Blocks.{Shape, size, cut, joined, cut_data}
use Rattle.blocks.specs.declared.Blocks.{Blocks}
use Rattle.blocks.specs.declared.Blocks.TheVariants.{Corrected, Refused}

-- what becomes of each block with its flags (3.10), in order
unfoldable pub outcomes : List Shape → List (List ℕ) → List (List ℕ) → List BlockOutcome
outcomes bs fs ws = zip_with (λ correct w. correct w) (zip_with (λ b f. correct_erased_of 0x163 1 b.parity f) bs fs) ws

-- the refusal of the first block that is refused, or 0
unfoldable pub first_refused : List BlockOutcome → ℕ
first_refused os = foldr (λ o n. cond (eqb o.number 0) n o.number) 0 os

-- the corrections of all blocks
unfoldable pub count_of : List BlockOutcome → ℕ
count_of os = foldr (λ o n. o.count + n) 0 os

-- the blocks as they are left
unfoldable pub blocks_of : List BlockOutcome → List (List ℕ)
blocks_of os = map (λ o. o.block) os

-- the blocks of a stream, corrected; the flags of its codewords are cut as it is
abbrev pub corrected : List Shape → List ℕ → List ℕ → List BlockOutcome
corrected bs flags stream = outcomes bs (cut bs flags) (cut bs stream)

-- the stream as it is left: each block as it was corrected, up to the first that is refused; what is behind that is as it was
unfoldable pub left_of : List Shape → List ℕ → List ℕ → List ℕ
left_of [] flags s = s
left_of (b ∷ bs) flags s =
    let o = correct_erased_of 0x163 1 b.parity (take (size b) flags) (take (size b) s) in
    o.block ++ cond (eqb o.number 0) (left_of bs (drop (size b) flags) (drop (size b) s)) (drop (size b) s)

-- each data part followed by its parity; there always is one (7.3)
unfoldable pub with_parities : List Shape → List (List ℕ) → List (List ℕ)
with_parities bs ds = zip_with (λ b d. d ++ Option.get_or (parity_of 0x163 1 b.parity d) []) bs ds

-- the stream of data codewords: cut into data parts, each followed by its parity, and joined
abbrev pub stream_of : List Shape → List ℕ → List ℕ
stream_of bs ds = joined (with_parities bs (cut_data bs ds))

-- the refusal number (SPECIFICATION 2.7) and the count for each case of the answer
unfoldable pub number_of : Blocks → ℕ
number_of (Corrected n) = 0
number_of (Refused n) = n

unfoldable pub corrections_of : Blocks → ℕ
corrections_of (Corrected n) = n
corrections_of (Refused n) = 0

-- in how many places two lists of blocks differ
unfoldable pub differences : List (List ℕ) → List (List ℕ) → ℕ
differences ws vs = foldr ◌+◌ 0 (zip_with distance ws vs)

-- block j, and its parity
abbrev pub block_at : List (List ℕ) → ℕ → List ℕ
block_at ws j = get_or ws j []

abbrev pub parity_at : List Shape → ℕ → ℕ
parity_at bs j = get_or (map (λ b. b.parity) bs) j 0
