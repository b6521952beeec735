-- What only inner functions use. Nobody has to believe it.
use Rattle.std.specs.Prelude.{◌≡◌, Bool, cond, List, [], ◌∷◌, map, ℕ, zero, suc, ◌+◌, ◌-◌, ◌*◌, ◌/◌, ◌%◌, ◌^◌, ◌<◌, eqb, get_or, set}
use Rattle.std.specs.Int.Bits.{bit_xor}
use Rattle.bits.specs.Bits.{low_bits, store_at}
use Rattle.information.specs.Information.{info_position, positions}
use Rattle.information.specs.declared.Best.{Best}

-- by which bits word k of a version differs from its word 0: the same for every version, since the code is linear
unfoldable pub differences : List ℕ
differences =
    0x0 ∷ 0x7721C0 ∷ 0xA6CF80 ∷ 0xD1EE40 ∷ 0x1055BC0 ∷ 0x1727A00 ∷ 0x1A39440 ∷ 0x1D4B580 ∷ 0x20AB340 ∷ 0x27D9280 ∷ 0x2AC7CC0 ∷ 0x2DB5D00 ∷ 0x30FE880
    ∷ 0x378C940 ∷ 0x3A92700 ∷ 0x3DE06C0 ∷ []

-- p, plus a where b is odd
abbrev pub plus_if_odd : ℕ → ℕ → ℕ → ℕ
plus_if_odd p a b = cond (eqb (b % 2) 1) (bit_xor p a) p

-- the word found so far is k, at distance d k
pub record Found (d : ℕ → ℕ) (k : ℕ) (b : Best) : Type 0 where
  pub word_is : b.word ≡ k
  pub at : b.distance ≡ d k
  pub small : b.word < 16

-- a word written into a copy
abbrev pub copy_written : ℕ → Bool → ℕ → List ℕ → List ℕ
copy_written s second w g = store_at (positions s second) (low_bits 34 w) g

-- the lowest bit of each byte
abbrev pub lowest : List ℕ → List ℕ
lowest g = map (λ m. m % 2) g

-- module n of a copy in a square
abbrev pub module_of : ℕ → Bool → List ℕ → ℕ → ℕ
module_of s second g n = get_or g (info_position s second n) 0

-- the number with the bits f 0, .. f (n − 1), the first the highest
unfoldable pub number_from : (ℕ → ℕ) → ℕ → ℕ
number_from f zero = 0
number_from f (suc n) = number_from f n * 2 + f n

-- bit n of a word, the first of 34 the highest
unfoldable pub bit_of : ℕ → ℕ → ℕ
bit_of w n = w / 2 ^ (33 - n) % 2

-- x 0, .. x (n − 1) stored at their places, one after the other
unfoldable pub stored : (ℕ → ℕ) → (ℕ → ℕ) → ℕ → List ℕ → List ℕ
stored place x zero g = g
stored place x (suc n) g = set (stored place x n g) (place n) (x n)

-- the first n bits of a word written into a copy
abbrev pub bits_written : ℕ → Bool → ℕ → ℕ → List ℕ → List ℕ
bits_written s second w n g = stored (info_position s second) (bit_of w) n g

-- bits from to below `to` of a word were written into a copy that held those before
pub record ArmWritten (s : ℕ) (second : Bool) (w from to : ℕ) (g g' : List ℕ) : Type 0 where
  pub is : (h : List ℕ) → g ≡ bits_written s second w from h → g' ≡ bits_written s second w to h
