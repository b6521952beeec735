-- What inner functions say of each other. Nobody has to believe it: the contracts of the operations do not cite it.
use Rattle.std.specs.Prelude.{◌≡◌, ◌⊎◌, List, ℕ, ◌*◌, ◌<◌, ◌≤◌, length, get_or}
use Rattle.symbol.specs.Version.{side_of}
use Rattle.receipts.specs.declared.Mark.{Mark}
use Rattle.marks.specs.Inner.{level_in, mask_in, distance_in}

-- the greater of two
pub record GreaterOf (a b r : ℕ) : Type 0 where
  pub left : a ≤ r
  pub right : b ≤ r
  pub one : (r ≡ a) ⊎ (r ≡ b)

-- r is the greatest byte
pub record GreatestByte (sq : List ℕ) (r : ℕ) : Type 0 where
  pub all : (i : ℕ) → get_or sq i 0 ≤ r
  pub some : 0 < r → (i : ℕ) × (get_or sq i 0 ≡ r)

-- the nearest level and mask of a square of version v
pub record Nearest (v : ℕ) (sq : List ℕ) (m : Mark) : Type 0 where
  pub version : m.version ≡ v
  pub level : m.level ≡ level_in v sq
  pub mask : m.mask ≡ mask_in v sq
  pub distance : m.distance ≡ distance_in v sq

-- a buffer holds the layout of any version whose squares have this one's size
pub record FitsLayout (sq ks : List ℕ) : Type 0 where
  pub room : (v : ℕ) → v ≤ 84 → length sq ≡ side_of v * side_of v → side_of v * side_of v ≤ length ks
