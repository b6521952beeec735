-- SPECIFICATION 6.2 and 8.1: bytes as bits, high bit first, the number that bits say, and bits cut into groups and words of one width.
use Rattle.std.specs.Prelude.{cond, ℕ, zero, suc, ◌+◌, ◌*◌, ◌/◌, ◌%◌, ◌^◌, leb, length, take, drop, set}
use mathlib.Core.List.{List, [], ◌∷◌, map, flat_map}
use Rattle.bits.specs.declared.Word.{Word}
use Rattle.bits.specs.declared.Word.TheVariants.{Value, Cut}

-- the n low bits of v, high bit first
unfoldable pub low_bits : ℕ → ℕ → List ℕ
low_bits zero v = []
low_bits (suc n) v = (v / 2 ^ n % 2) ∷ low_bits n v

-- the number that bits say behind the number a
unfoldable pub value : ℕ → List ℕ → ℕ
value a [] = a
value a (b ∷ bs) = value (a * 2 + b) bs

-- the number that the first n bits say, where there are so many
unfoldable pub read_bits : ℕ → List ℕ → Word
read_bits n bs = cond (leb n (length bs)) (Value (value 0 (take n bs))) Cut

-- the first k groups of w bits each
unfoldable pub groups : ℕ → ℕ → List ℕ → List (List ℕ)
groups w zero bs = []
groups w (suc k) bs = take w bs ∷ groups w k (drop w bs)

-- the first k words of w bits each
unfoldable pub first_words : ℕ → ℕ → List ℕ → List ℕ
first_words w k bs = map (value 0) (groups w k bs)

-- all whole words of w bits each
unfoldable pub words : ℕ → List ℕ → List ℕ
words w bs = first_words w (length bs / w) bs

-- the bits of words of w bits each
unfoldable pub word_bits : ℕ → List ℕ → List ℕ
word_bits w vs = flat_map (low_bits w) vs

-- the i-th value is stored at the i-th place
unfoldable pub store_at : List ℕ → List ℕ → List ℕ → List ℕ
store_at [] vs s = s
store_at (p ∷ ps) [] s = s
store_at (p ∷ ps) (v ∷ vs) s = store_at ps vs (set s p v)

-- the bits of bytes, eight of each
abbrev pub bits_of : List ℕ → List ℕ
bits_of bs = word_bits 8 bs
