-- SPECIFICATION 2.1: version v is 1 to 84, and its square has the side s = 2v + 21, odd and 23 to 189.
use Rattle.std.specs.Prelude.{Bool, cond, ◌&&◌, ℕ, ◌+◌, ◌-◌, ◌*◌, ◌/◌, ◌%◌, leb, eqb}
use Rattle.symbol.specs.declared.FromSide.{FromSide}
use Rattle.symbol.specs.declared.FromSide.TheVariants.{Found, NoVersion}

-- the side of a version
abbrev pub side_of : ℕ → ℕ
side_of v = 2 * v + 21

-- there is such a version
unfoldable pub is_version : ℕ → Bool
is_version v = leb 1 v && leb v 84

-- a version has this side
unfoldable pub is_side : ℕ → Bool
is_side s = leb 23 s && (leb s 189 && eqb (s % 2) 1)

-- the version of a side: refusal 1 where there is none, and the version beside it, 0 after a refusal
unfoldable pub side_refusal : ℕ → ℕ
side_refusal s = cond (is_side s) 0 1

unfoldable pub side_version : ℕ → ℕ
side_version s = cond (is_side s) ((s - 21) / 2) 0

-- an answer's refusal number and version
abbrev pub side_number : FromSide → ℕ
side_number (Found v) = 0
side_number NoVersion = 1

abbrev pub version_of : FromSide → ℕ
version_of (Found v) = v.number
version_of NoVersion = 0
