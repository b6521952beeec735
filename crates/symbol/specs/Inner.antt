-- Records that only the contracts of inner functions cite. Nobody has to believe them: they say where a loop or a call stands.
use Rattle.std.specs.Prelude.{◌≡◌, cond, List, ℕ, ◌+◌, ◌-◌, ◌*◌, ◌/◌, ◌%◌, ◌<◌, ◌≤◌, eqb, ℤ, pos, nat_abs, length, get_or}
use Rattle.std.specs.Int.Bits.{bit_and}
use Rattle.symbol.specs.Version.{side_of}
use Rattle.symbol.specs.Layout.{corner_at, Plot, plot_all, ks, rs, m_of}
use Rattle.symbol.specs.declared.Spacing.{Spacing}

-- k and r of a version
abbrev pub k_of : ℕ → ℕ
k_of v = get_or ks (v - 1) 0

abbrev pub r_of : ℕ → ℕ
r_of v = get_or rs (v - 1) 0

-- the kind of place i of the corners
abbrev pub corner_kind : ℕ → ℕ → ℕ
corner_kind s i = corner_at s (i / s) (i % s)

-- places from to below `to` were given what f says, and no other byte changed
pub record Stored (f : ℕ → ℕ) (from to : ℕ) (g g' : List ℕ) : Type 0 where
  pub size : length g' ≡ length g
  pub here : (i : ℕ) → from ≤ i → i < to → get_or g' i 0 ≡ f i
  pub before : (i : ℕ) → i < from → get_or g' i 0 ≡ get_or g i 0
  pub after : (i : ℕ) → to ≤ i → get_or g' i 0 ≡ get_or g i 0

-- four modules by the bits of a digit, as the bytes of one number
abbrev pub four_modules : ℕ → ℕ
four_modules d = bit_and (d * 134480385 / 8) 16843009 + 33686018

-- a row of a square, and bytes for it; its places are small numbers
pub record RowRoom (side row : ℕ) (g : List ℕ) : Type 0 where
  pub big : 23 ≤ side
  pub small : side ≤ 189
  pub inside : row < side
  pub room : row * side + side ≤ length g
  pub fits : row * side + side ≤ 35721

-- the first and last nine places from `from` to below `to` were given what f says, and no other byte changed
pub record Ends (f : ℕ → ℕ) (from to : ℕ) (g g' : List ℕ) : Type 0 where
  pub size : length g' ≡ length g
  pub left : (i : ℕ) → from ≤ i → i < from + 9 → get_or g' i 0 ≡ f i
  pub right : (i : ℕ) → to ≤ i + 9 → i < to → get_or g' i 0 ≡ f i
  pub middle : (i : ℕ) → from + 9 ≤ i → i + 9 < to → get_or g' i 0 ≡ get_or g i 0
  pub before : (i : ℕ) → i < from → get_or g' i 0 ≡ get_or g i 0
  pub after : (i : ℕ) → to ≤ i → get_or g' i 0 ≡ get_or g i 0

-- of n places, those below k hold what f says, the others 0
pub record UpTo (f : ℕ → ℕ) (n k : ℕ) (g : List ℕ) : Type 0 where
  pub done : (i : ℕ) → i < k → get_or g i 0 ≡ f i
  pub blank : (i : ℕ) → k ≤ i → i < n → get_or g i 0 ≡ 0

-- no byte from n on changed
pub record Beyond (n : ℕ) (g g' : List ℕ) : Type 0 where
  pub size : length g' ≡ length g
  pub after : (i : ℕ) → n ≤ i → get_or g' i 0 ≡ get_or g i 0

-- a square before and after the plots of a list
pub record Plotted (s : ℕ) (ps : List Plot) (g g' : List ℕ) : Type 0 where
  pub is : g' ≡ plot_all s ps g

-- the numbers of a version that has alignment patterns
pub record Spaced (p : Spacing) : Type 0 where
  pub low : 4 ≤ p.version
  pub high : p.version ≤ 84
  pub side_is : p.side ≡ side_of p.version
  pub k_is : p.k ≡ k_of p.version
  pub r_is : p.r ≡ r_of p.version
  pub m_is : p.m ≡ m_of p.version
  pub k_in : (1 ≤ p.k) × (p.k ≤ 22)
  pub r_in : (2 ≤ p.r) × (p.r ≤ 23)
  pub m_le : p.m ≤ 10
  pub last : p.m * p.k + p.r ≡ p.side

-- such a version and a square for it
pub record FitsSquare (p : Spacing) (g : List ℕ) : Type 0 where
  pub spaced : Spaced p
  pub room : p.side * p.side ≤ length g

-- a column or a row of a square
pub record Inside (s : ℕ) (z : ℤ) : Type 0 where
  pub whole : z ≡ pos (nat_abs z)
  pub within : nat_abs z < s

-- what a place that holds a has after kind k was drawn there: data alone changes
unfoldable pub drawn : ℕ → ℕ → ℕ
drawn a k = cond (eqb a 0) k a
