-- SPECIFICATION 10.12: Write the smallest mark.
use Rattle.std.specs.Prelude.{Bool, cond, ◌&&◌, List, [], ◌∷◌, ◌++◌, ℕ, ◌*◌, leb, eqb, length, drop}
use Rattle.general.specs.Lists.{lowest}
use Rattle.symbol.specs.Version.{side_of}
use Rattle.block_table.specs.Blocks.{has_blocks}
use Rattle.script.specs.Check.{commands_of}
use Rattle.marks.specs.Read.{first_refusal, unless}
use Rattle.marks.specs.Write.{segments_refusal, fits, mark_of}

-- what it gives: the refusal number or 0, the version found, 0 after a refusal, and what the square holds afterwards
pub record Smallest : Type 0 where
  pub number : ℕ
  pub version : ℕ
  pub square : List ℕ

-- what a call that returns n and v leaves in the square
abbrev pub smallest : ℕ → ℕ → List ℕ → Smallest
smallest n v sq = record { number = n; version = v; square = sq }

-- a version holds a script and payload at a level: SPECIFICATION 7.4 does not refuse it, and their bits fit
unfoldable pub holds : ℕ → List ℕ → List ℕ → ℕ → Bool
holds level s p v = has_blocks v level && fits v level s p

-- the lowest version that does, or 85 if none of the 84 does
unfoldable pub lowest_version : ℕ → List ℕ → List ℕ → ℕ
lowest_version level s p = lowest (holds level s p) 84 1

-- 1 level or mask outside its range; 11, 12 and 8; 14 no version holds them; 2 square shorter than that of the lowest version that does
unfoldable pub smallest_refusal : ℕ → ℕ → List ℕ → List ℕ → List ℕ → ℕ
smallest_refusal level mask s p sq =
    let v = lowest_version level s p in
    first_refusal
    (unless (leb level 3 && leb mask 3) 1 ∷ segments_refusal (commands_of s p) p ∷ unless (leb v 84) 14
    ∷ unless (leb (side_of v * side_of v) (length sq)) 2 ∷ [])

-- the mark of that version in front, and the bytes beyond it stay; a refusal leaves the square
unfoldable pub smallest_of : ℕ → ℕ → List ℕ → List ℕ → List ℕ → Smallest
smallest_of level mask s p sq =
    let v = lowest_version level s p in
    cond (eqb (smallest_refusal level mask s p sq) 0) (smallest 0 v (mark_of v level mask s p ++ drop (side_of v * side_of v) sq))
    (smallest (smallest_refusal level mask s p sq) 0 sq)
