-- Modules are bits, the stream of a square has bytes and the version's length, and codewords in front of a buffer. Assumes nothing.
use Rattle.general.proofs.Names.{◌≡◌, refl, sym, ap, ap₂, ◌∙◌, Bool, true, false, cond, List, [], ◌∷◌, ◌++◌, map, ℕ, zero, suc, ◌<◌, arith, leb, eqb, ne_eqb, length, get_or, take}
use Rattle.general.proofs.Names.{take_at, le-leb, leb-true}
use Rattle.symbol.specs.Version.{side_of}
use Rattle.symbol.specs.Layout.{layout_of}
use Rattle.information.specs.Information.{copy_of, nearest_of}
use Rattle.block_table.specs.Blocks.{total_of}
use Rattle.codewords.specs.Codewords.{mask_at, mask_bit, data_bits}
use Rattle.codewords.specs.Inner.{stream_in}
use Rattle.codewords.proofs.Interleave.{length_stream}
use Rattle.codewords.proofs.Small.{Below, stream_none}
use Rattle.marks.specs.Read.{module_bit, unknown_bit, nearest_in, stream_from, flags_from}
use Rattle.marks.proofs.Refusals.{both_true}
use Rattle.bits.specs.Bits.{first_words}
use Rattle.marks.specs.Inner.{are_modules}
use Rattle.bits.proofs.Words.{first_length}

pub modules_below : (sq : List ℕ) → are_modules sq ≡ true → Below 3 sq
modules_below [] e i = omega arith
modules_below (m ∷ ms) e zero = omega (arith, leb-true m 2 (both_true (leb m 2) (are_modules ms) e).0)
modules_below (m ∷ ms) e (suc i) = modules_below ms (both_true (leb m 2) (are_modules ms) e).1 i

pub below_modules : (sq : List ℕ) → Below 3 sq → are_modules sq ≡ true
below_modules [] b = refl
below_modules (m ∷ ms) b = rw (le-leb m 2 (omega (arith, b 0)), below_modules ms (λ i. b (suc i)))

-- a list by a test of each element has bits
test_below : (k : ℕ) (sq : List ℕ) → Below 2 (map (λ m. cond (eqb m k) 1 0) sq)
test_below k [] i = omega arith
test_below k (m ∷ ms) zero = one (eqb m k)
  where
    one : (t : Bool) → cond t 1 0 < 2
    one true = omega arith
    one false = omega arith
test_below k (m ∷ ms) (suc i) = test_below k ms i

pub lit_below : (sq : List ℕ) → Below 2 (map module_bit sq)
lit_below sq = test_below 1 sq

pub lit_length : (sq : List ℕ) → length (map module_bit sq) ≡ length sq
lit_length [] = refl
lit_length (m ∷ ms) = ap suc (lit_length ms)

pub unknown_below : (sq : List ℕ) → Below 2 (map unknown_bit sq)
unknown_below sq = test_below 2 sq

-- none is unknown
unknown_none : (sq : List ℕ) → Below 2 sq → Below 1 (map unknown_bit sq)
unknown_none [] b i = omega arith
unknown_none (m ∷ ms) b zero = simp (ne_eqb m 2 (λ e. omega (arith, b 0))) (omega arith)
unknown_none (m ∷ ms) b (suc i) = unknown_none ms (λ i. b (suc i)) i

-- modules that are bits are read as they are
pub bits_are : (sq : List ℕ) → Below 2 sq → map module_bit sq ≡ sq
bits_are [] b = refl
bits_are (m ∷ ms) b = ap₂ ◌∷◌ (one m (b 0)) (bits_are ms (λ i. b (suc i)))
  where
    one : (m : ℕ) → m < 2 → module_bit m ≡ m
    one zero h = refl
    one (suc zero) h = refl
    one (suc (suc m)) h = absurd (omega arith)

module _ (v : ℕ) (sq : List ℕ) (b : Below 2 sq) where
  pub stream_bits : (mask : ℕ) → stream_from v mask sq ≡ stream_in (total_of v) (mask_bit (side_of v) mask) (layout_of v) sq
  unfolding stream_from
  stream_bits mask = ap (stream_in (total_of v) (mask_bit (side_of v) mask) (layout_of v)) (bits_are sq b)

  pub nearest_bits : nearest_in v sq ≡ nearest_of v (copy_of (side_of v) false sq) (copy_of (side_of v) true sq)
  unfolding nearest_in
  nearest_bits = ap (λ (g : List ℕ). nearest_of v (copy_of (side_of v) false g) (copy_of (side_of v) true g)) (bits_are sq b)

-- a square is read as the one with its unknown modules light
module _ (v : ℕ) (sq : List ℕ) where
  pub stream_lit : (mask : ℕ) → stream_from v mask sq ≡ stream_from v mask (map module_bit sq)
  unfolding stream_from
  stream_lit mask = ap (λ (g : List ℕ). stream_in (total_of v) (mask_bit (side_of v) mask) (layout_of v) g) (sym (bits_are (map module_bit sq) (lit_below sq)))

  pub nearest_lit : nearest_in v sq ≡ nearest_in v (map module_bit sq)
  unfolding nearest_in
  nearest_lit = ap (λ (g : List ℕ). nearest_of v (copy_of (side_of v) false g) (copy_of (side_of v) true g)) (sym (bits_are (map module_bit sq) (lit_below sq)))

  -- where no module is unknown, no flag is set
  pub flags_none : Below 2 sq → (i : ℕ) → get_or (flags_from v sq) i 0 ≡ 0
  unfolding flags_from mask_bit mask_at
  flags_none b i =
      omega (
        arith,
        ap (λ (s : List ℕ). get_or s i 0) (stream_bits v (map unknown_bit sq) (unknown_below sq) 0),
        stream_none (total_of v) (mask_bit (side_of v) 0) (layout_of v) (map unknown_bit sq) (λ i. refl) (unknown_none sq b) i,
      )

pub stream_length : (v mask : ℕ) (sq : List ℕ) → length (stream_from v mask sq) ≡ total_of v
unfolding stream_from
stream_length v mask sq =
    let bs = data_bits (mask_bit (side_of v) mask) 0 (layout_of v) (map module_bit sq) in
    length_stream (first_words 8 (total_of v) bs) ∙ first_length 8 (total_of v) bs

pub flags_length : (v : ℕ) (sq : List ℕ) → length (flags_from v sq) ≡ total_of v
unfolding flags_from
flags_length v sq = stream_length v 0 (map unknown_bit sq)

-- the codewords in front of a buffer
pub codewords_taken : (total : ℕ) (bs rest found : List ℕ) → found ≡ first_words 8 total bs ++ rest → take total found ≡ first_words 8 total bs
codewords_taken total bs rest found e = ap (take total) e ∙ take_at (first_words 8 total bs) rest total (first_length 8 total bs)
