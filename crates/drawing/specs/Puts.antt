-- What the functions that write say of each other. Nobody has to believe it.
use Rattle.std.specs.Prelude.{◌≡◌, List, ◌++◌, ℕ, zero, suc, ◌+◌, ◌<◌, ◌≤◌, length, get_or, take, drop, set}
use Rattle.std.proofs.lemmas.List.Edits.{sets}
use Rattle.std.specs.Int.Bits.{bit_xor}
use Rattle.bits.specs.Bits.{bits_of}
use Rattle.symbol.specs.Layout.{data_modules}
use Rattle.codewords.specs.Codewords.{placed}
use Rattle.placement.specs.Walk.{run}
use Rattle.drawing.specs.declared.Cursor.{Cursor}

-- a module without data
unfoldable pub pattern_of : ℕ → ℕ
pattern_of zero = 0
pattern_of (suc zero) = 0
pattern_of (suc (suc zero)) = 0
pattern_of (suc (suc (suc k))) = 1

-- a list as a function of the place
abbrev pub get_or₀ : List ℕ → ℕ → ℕ
get_or₀ s k = get_or s k 0

-- patterns from a place on
pub record PatternsFrom (ks sq : List ℕ) (from : ℕ) : Type 0 where
  pub is : (k : ℕ) → from ≤ k → k < length ks → get_or sq k 0 ≡ pattern_of (get_or ks k 0)

-- what stands before a place, and what is to be placed from there on, are the whole; `after` are the bits left then
pub record Placing (m : ℕ → ℕ) (ks whole after sq ds : List ℕ) (c : ℕ) : Type 0 where
  pub size : length sq ≡ length ks
  pub few : c ≤ length ks
  pub is : take c sq ++ placed m c (drop c ks) ds ≡ whole
  pub left : drop (data_modules (drop c ks)) ds ≡ after
  pub patterns : PatternsFrom ks sq c

-- a bit is put, a zero bit where none is left
pub record PutBit (at bit inverted : ℕ) (cw sq sq' : List ℕ) (r : ℕ) : Type 0 where
  pub is : sq' ≡ set sq at (bit_xor (get_or (bits_of cw) bit 0) inverted)
  pub left : drop r (bits_of cw) ≡ drop (bit + 1) (bits_of cw)

-- eight bits are put
pub record PutEight (row cw sq sq' : List ℕ) (p q : Cursor) : Type 0 where
  pub column_is : q.column ≡ p.column + 8
  pub bit_is : q.bit ≡ p.bit + 8
  pub is : sq' ≡ sets sq p.column (run 8 (λ k. bit_xor (get_or (bits_of cw) (p.bit + k) 0) (get_or row (p.column + k) 0)))

-- a row of a square, its kinds, its mask in a buffer, and codewords
pub record RowBuffers (sq ks row cw : List ℕ) : Type 0 where
  pub side : length ks ≤ 192
  pub size : length sq ≡ length ks
  pub room : length row ≡ 192
  pub masks : (k : ℕ) → get_or row k 0 < 2
  pub few : length cw ≤ 65535

-- from one column of a row to another
pub record Puts (ks row cw sq sq' : List ℕ) (p q : Cursor) : Type 0 where
  pub go : (whole after : List ℕ) → Placing (get_or₀ row) ks whole after sq (drop p.bit (bits_of cw)) p.column
      → Placing (get_or₀ row) ks whole after sq' (drop q.bit (bits_of cw)) q.column

-- to the end of the row
pub record PutsAll (ks row cw sq sq' : List ℕ) (p : Cursor) (bit : ℕ) : Type 0 where
  pub go : (whole after : List ℕ) → Placing (get_or₀ row) ks whole after sq (drop p.bit (bits_of cw)) p.column
      → (sq' ≡ whole) × (drop bit (bits_of cw) ≡ after)
