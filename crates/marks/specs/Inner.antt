-- What only proofs and the contracts of inner functions cite. Nobody has to believe it.
use Rattle.std.specs.Prelude.{Bool, List, ℕ, leb}
use Rattle.general.specs.Lists.{all}
use Rattle.marks.specs.Read.{nearest_in}

-- no byte is above 2
abbrev pub are_modules : List ℕ → Bool
are_modules sq = all (λ m. leb m 2) sq

-- the nearest level and mask of a square of version v, and their distance
abbrev pub level_in : ℕ → List ℕ → ℕ
level_in v sq = (nearest_in v sq).level

abbrev pub mask_in : ℕ → List ℕ → ℕ
mask_in v sq = (nearest_in v sq).mask

abbrev pub distance_in : ℕ → List ℕ → ℕ
distance_in v sq = (nearest_in v sq).distance
