-- What inner functions say of each other. Nobody has to believe it: the contract of the operation does not cite it.
use Rattle.std.specs.Prelude.{◌≡◌, cond, List, [], ◌∷◌, ◌++◌, ℕ, ◌*◌, ◌≤◌, eqb, leb, length, take, drop}
use Rattle.symbol.specs.Version.{side_of}
use Rattle.symbol.specs.Layout.{layout_of}
use Rattle.information.specs.Information.{is_info, info_bits}
use Rattle.block_table.specs.Blocks.{row_of, has_blocks}
use Rattle.script.specs.Check.{commands_of}
use Rattle.marks.specs.Read.{first_refusal, unless}
use Rattle.marks.specs.Write.{segments_refusal, fits, Writing, writing_of, mark_of}
use Rattle.writer.specs.declared.Mark.{Mark}

-- version, level and mask are in their ranges, and the word is theirs
pub record ValidMark (m : Mark) : Type 0 where
  pub low : 1 ≤ m.version
  pub high : m.version ≤ 84
  pub level : m.level ≤ 3
  pub mask : m.mask ≤ 3
  pub word : m.word ≡ info_bits m.version m.level m.mask

-- the row of its version and level
pub record Row (m : Mark) (r : List ℕ) : Type 0 where
  pub nine : length r ≡ 9
  pub is : r ≡ row_of m.version m.level

-- and a buffer begins with the kinds of the version's modules
pub record MarkWithLayout (m : Mark) (ks : List ℕ) : Type 0 where
  pub valid : ValidMark m
  pub long : side_of m.version * side_of m.version ≤ length ks
  pub kinds : take (side_of m.version * side_of m.version) ks ≡ layout_of m.version

-- the refusals of write_refusal in two parts, behind that of version, level and mask: those of blocks and square size ..
unfoldable pub place_refusal : ℕ → ℕ → ℕ → ℕ
place_refusal v level size = first_refusal (unless (has_blocks v level) 1 ∷ unless (eqb size (side_of v * side_of v)) 2 ∷ [])

-- .. and those of script and payload
unfoldable pub script_refusal : ℕ → ℕ → List ℕ → List ℕ → ℕ
script_refusal v level s p = first_refusal (segments_refusal (commands_of s p) p ∷ unless (fits v level s p) 13 ∷ [])

-- the refusals of a version for which a script fits, before a mark is written in front of a square: 1 as in Write a square, 2 for a shorter one
unfoldable pub front_refusal : ℕ → ℕ → ℕ → List ℕ → ℕ
front_refusal v level mask sq =
    first_refusal (unless (is_info v level mask) 1 ∷ unless (has_blocks v level) 1 ∷ unless (leb (side_of v * side_of v) (length sq)) 2 ∷ [])

-- and what the square is then
unfoldable pub front_of : ℕ → ℕ → ℕ → List ℕ → List ℕ → List ℕ → Writing
front_of v level mask s p sq =
    cond (eqb (front_refusal v level mask sq) 0) (writing_of 0 (mark_of v level mask s p ++ drop (side_of v * side_of v) sq))
    (writing_of (front_refusal v level mask sq) sq)
