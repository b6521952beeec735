-- What the functions of this crate say of each other. Nobody has to believe it.
use Rattle.std.specs.Prelude.{◌≡◌, ◌≢◌, List, [], ◌∷◌, ◌++◌, ℕ, zero, suc, ◌+◌, ◌-◌, ◌*◌, ◌/◌, ◌%◌, ◌^◌, ◌<◌, ◌≤◌, length, get_or, take, drop, set}
use Rattle.std.specs.Int.Bits.{bit_xor}
use Rattle.bits.specs.Bits.{low_bits, first_words}
use Rattle.codewords.specs.Codewords.{data_bits}
use Rattle.information.specs.Inner.{lowest}
use Rattle.placement.specs.declared.Run.{Run}

-- Eight numbers as one. They are functions of 0 to 7, so that what a place holds and what is made of it are said alike.

-- four bytes as one number, and eight
abbrev pub four_of : ℕ → ℕ → ℕ → ℕ → ℕ
four_of a b c d = ((d * 256 + c) * 256 + b) * 256 + a

abbrev pub eight_of : (ℕ → ℕ) → ℕ
eight_of b = four_of (b 4) (b 5) (b 6) (b 7) * 4294967296 + four_of (b 0) (b 1) (b 2) (b 3)

-- the number that eight bits say
abbrev pub byte_of : (ℕ → ℕ) → ℕ
byte_of b = (b 0 * 8 + b 1 * 4 + b 2 * 2 + b 3) * 16 + (b 4 * 8 + b 5 * 4 + b 6 * 2 + b 7)

-- the first n of them as a list
unfoldable pub run : ℕ → (ℕ → ℕ) → List ℕ
run zero b = []
run (suc n) b = b 0 ∷ run n (λ k. b (suc k))

-- what a list holds from a place on
abbrev pub behind : List ℕ → ℕ → ℕ → ℕ
behind s at k = get_or s (at + k) 0

-- the bytes of a number, lowest first
abbrev pub bytes_of : ℕ → List ℕ
bytes_of x =
    (x % 256) ∷ (x / 256 % 256) ∷ (x / 65536 % 256) ∷ (x / 16777216 % 256) ∷ (x / 4294967296 % 256) ∷ (x / 1099511627776 % 256)
    ∷ (x / 281474976710656 % 256) ∷ (x / 72057594037927936 % 256) ∷ []

-- the lowest bits of bytes below 4, gathered
pub record Gathered (x r : ℕ) : Type 0 where
  pub small : r < 256
  pub is : (b : ℕ → ℕ) → ((k : ℕ) → b k < 4) → x ≡ eight_of b → r ≡ byte_of (λ k. b k % 2)

-- Reading.

-- the data bits from a place on
abbrev pub bits_from : (ℕ → ℕ) → List ℕ → List ℕ → ℕ → List ℕ
bits_from m ks sq i = data_bits m i (drop i ks) (drop i sq)

-- fewer than eight bits are pending, with at most eight others above them
pub record FewPending (r : Run) : Type 0 where
  pub few : r.bits < 8
  pub small : r.value < 2 ^ (8 + r.bits)

-- n codewords of `total` are read, and `left` are the bits from the next on
pub record Words (total : ℕ) (all out left : List ℕ) (n : ℕ) : Type 0 where
  pub size : length out ≡ total
  pub few : n ≤ total
  pub enough : 8 * (total - n) ≤ length left
  pub is : take n out ++ first_words 8 (total - n) left ≡ first_words 8 total all

-- the same where some of these bits are pending, and `rest` are the others
pub record Walk (total : ℕ) (all out rest : List ℕ) (r : Run) : Type 0 where
  pub words : Words total all out (low_bits r.bits r.value ++ rest) r.n

pub record Stored (n x : ℕ) (out out' : List ℕ) (r : ℕ) : Type 0 where
  pub room : n < length out → (r ≡ n + 1) × (out' ≡ set out n x)
  pub full : length out ≤ n → (r ≡ n) × (out' ≡ out)

-- the w bits of x are no longer in front, whatever the others are
pub record Pushed (w x : ℕ) (out out' : List ℕ) (r s : Run) : Type 0 where
  pub go : (total : ℕ) (all rest : List ℕ) → Walk total all out (low_bits w x ++ rest) r → Walk total all out' rest s

-- a row of bits, and its mask
pub record Masked (sq row : List ℕ) : Type 0 where
  pub side : length sq ≤ 192
  pub modules : (k : ℕ) → get_or sq k 0 < 2
  pub masks : (k : ℕ) → get_or row k 0 < 2

-- a row of modules with their kinds, and the mask in a buffer
pub record Aligned (ks sq row : List ℕ) : Type 0 where
  pub masked : Masked (lowest sq) row
  pub size : length sq ≡ length ks
  pub room : length row ≡ 192
  pub modules : (k : ℕ) → get_or sq k 0 < 3

-- the bits of a row from a column on, as if all its modules were data
abbrev pub unmasked_at : List ℕ → List ℕ → ℕ → ℕ → ℕ
unmasked_at sq row at k = bit_xor (get_or sq (at + k) 0) (get_or row (at + k) 0)

-- no data module from one column on and before another
pub record Skipped (ks : List ℕ) (first r : ℕ) : Type 0 where
  pub least : first ≤ r
  pub most : r ≤ length ks
  pub none : (k : ℕ) → first ≤ k → k < r → get_or ks k 0 ≢ 0

-- the data bits of a row from a column on
abbrev pub row_bits : List ℕ → List ℕ → List ℕ → ℕ → List ℕ
row_bits ks sq row c = bits_from (λ k. get_or row k 0) ks sq c

-- from one column of a row to another, whatever is behind the row
pub record ReadsColumns (ks sq row out out' : List ℕ) (r s : Run) : Type 0 where
  pub go : (total : ℕ) (all rest : List ℕ) → Walk total all out (row_bits ks sq row r.column ++ rest) r
      → Walk total all out' (row_bits ks sq row s.column ++ rest) s

-- Runs of modules of one sort.

-- the first w bytes of x are 0, and w is not 0 where the first byte is
pub record ZeroBytesFirst (x w : ℕ) : Type 0 where
  pub most : w ≤ 8
  pub zeros : x % 2 ^ (8 * w) ≡ 0
  pub first : x % 256 ≡ 0 → 1 ≤ w

-- the bytes of k behind the first and before the place w are not 0
pub record NoData (k w : ℕ) : Type 0 where
  pub least : 1 ≤ w
  pub most : w ≤ 8
  pub none : (j : ℕ) → 0 < j → j < w → k / 2 ^ (8 * j) % 256 ≢ 0

-- the next `left` columns of a row from c on: k has their kinds, and x bytes whose lowest bits are theirs
pub record Next (ks sq row : List ℕ) (b : ℕ → ℕ) (c k x left : ℕ) : Type 0 where
  pub aligned : Aligned ks sq row
  pub bytes : (i : ℕ) → get_or ks i 0 < 256
  pub kinds : k ≡ eight_of (behind ks c)
  pub inside : c + left ≤ length ks
  pub modules : x ≡ eight_of b
  pub small : (i : ℕ) → b i < 4
  pub bits : (i : ℕ) → i < left → b i % 2 ≡ unmasked_at (lowest sq) row c i

-- some of them are passed, in every such row
pub record ReadsNext (k x left : ℕ) (out out' : List ℕ) (r s : Run) : Type 0 where
  pub go : (ks sq row : List ℕ) (b : ℕ → ℕ) → Next ks sq row b r.column k x left
      → (r.column < s.column) × (s.column ≤ length ks) × ReadsColumns ks (lowest sq) row out out' r s
