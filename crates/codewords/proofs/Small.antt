-- Bits stay bits and bytes stay bytes on the way from a square to its stream and back.
use Rattle.general.proofs.Names.{◌≡◌, refl, sym, ap, ap₂, subst, ◌∙◌, bit_xor, take, ◌*◌, List, [], ◌∷◌, ℕ, zero, suc, ◌+◌, ◌<◌, arith, dec_lt, xor_lt, lit<, length, get_or, set, drop, replicate}
use Rattle.general.proofs.Names.{get_or-replicate, length-replicate, get_or-eq_default, get_or-drop}
use Rattle.symbol.proofs.KindsLow.{set_any}
use Rattle.bits.specs.Bits.{bits_of, value, groups, first_words, store_at}
use Rattle.codewords.specs.Codewords.{data_bits, placed, order, to_stream, from_stream}
use Rattle.codewords.specs.Inner.{stream_in, square_of}
use Rattle.bits.proofs.Reading.{value_bound, bit_lt}

-- every element of a list is below n
abbrev pub Below : ℕ → List ℕ → Type 0
Below n xs = (i : ℕ) → get_or xs i 0 < n

module _ (m : ℕ → ℕ) (small : (i : ℕ) → m i < 2) where
  pub data_below : (i : ℕ) (ks sq : List ℕ) → Below 2 sq → Below 2 (data_bits m i ks sq)
  unfolding data_bits
  data_below i [] sq h j = omega arith
  data_below i (k ∷ ks) [] h j = omega arith
  data_below i (zero ∷ ks) (b ∷ sq) h zero = xor_lt 1 b (m i) (h 0) (small i)
  data_below i (zero ∷ ks) (b ∷ sq) h (suc j) = data_below (suc i) ks sq (λ n. h (suc n)) j
  data_below i (suc k ∷ ks) (b ∷ sq) h j = data_below (suc i) ks sq (λ n. h (suc n)) j

  pub placed_below : (i : ℕ) (ks ds : List ℕ) → Below 2 ds → Below 2 (placed m i ks ds)
  unfolding placed
  placed_below i [] ds h j = omega arith
  placed_below i (zero ∷ ks) [] h zero = xor_lt 1 0 (m i) (omega arith) (small i)
  placed_below i (zero ∷ ks) [] h (suc j) = placed_below (suc i) ks [] h j
  placed_below i (zero ∷ ks) (d ∷ ds) h zero = xor_lt 1 d (m i) (h 0) (small i)
  placed_below i (zero ∷ ks) (d ∷ ds) h (suc j) = placed_below (suc i) ks ds (λ n. h (suc n)) j
  placed_below i (suc zero ∷ ks) ds h zero = omega arith
  placed_below i (suc zero ∷ ks) ds h (suc j) = placed_below (suc i) ks ds h j
  placed_below i (suc (suc zero) ∷ ks) ds h zero = omega arith
  placed_below i (suc (suc zero) ∷ ks) ds h (suc j) = placed_below (suc i) ks ds h j
  placed_below i (suc (suc (suc k)) ∷ ks) ds h zero = omega arith
  placed_below i (suc (suc (suc k)) ∷ ks) ds h (suc j) = placed_below (suc i) ks ds h j

drop_below : (n k : ℕ) (xs : List ℕ) → Below n xs → Below n (drop k xs)
drop_below n k xs h i = subst (λ (x : ℕ). x < n) (sym (get_or-drop k xs i 0)) (h (k + i))

pub codewords_below : (n : ℕ) (bs : List ℕ) → Below 2 bs → Below 256 (first_words 8 n bs)
unfolding first_words groups
codewords_below zero bs h j = omega arith
codewords_below (suc n) bs h zero = value_bound bs 8 0 0 h (omega arith)
codewords_below (suc n) bs h (suc j) = codewords_below n (drop 8 bs) (drop_below 2 8 bs h) j

store_below : (n : ℕ) (ps cs s : List ℕ) → Below n cs → Below n s → Below n (store_at ps cs s)
unfolding store_at
store_below n [] cs s h g = g
store_below n (p ∷ ps) [] s h g = g
store_below n (p ∷ ps) (c ∷ cs) s h g = store_below n ps cs (set s p c) (λ i. h (suc i)) (λ i. set_any (λ y. y < n) s p c i (h 0) (g i))

pub zeros_below : (n k : ℕ) → 0 < n → Below n (replicate k 0)
zeros_below n k h i = elim (dec_lt i k) [
  | yes l ↦ subst (λ (x : ℕ). x < n) (sym (get_or-replicate k i 0 0 l)) h
  | no l ↦ subst (λ (x : ℕ). x < n) (sym (get_or-eq_default (replicate k 0) 0 (omega (arith, length-replicate {A = ℕ} k 0)))) h
]

-- the stream of a square of bits has bytes
pub stream_below : (total : ℕ) (m : ℕ → ℕ) (ks sq : List ℕ) → ((i : ℕ) → m i < 2) → Below 2 sq → Below 256 (stream_in total m ks sq)
unfolding to_stream
stream_below total m ks sq small h =
    let cs = first_words 8 total (data_bits m 0 ks sq) in
    store_below 256 (order (length cs)) cs (replicate (length cs) 0) (codewords_below total (data_bits m 0 ks sq) (data_below m small 0 ks sq h))
    (zeros_below 256 (length cs) (lit< tt))

-- ---- a square of zeros where nothing is inverted

none_below : (m : ℕ → ℕ) → ((i : ℕ) → m i ≡ 0) → (i : ℕ) (ks sq : List ℕ) → Below 1 sq → Below 1 (data_bits m i ks sq)
unfolding data_bits
none_below m z i [] sq h j = omega arith
none_below m z i (k ∷ ks) [] h j = omega arith
none_below m z i (zero ∷ ks) (b ∷ sq) h zero =
    let e : b ≡ 0 = omega (arith, h 0) in omega (arith, ap₂ bit_xor e (z i))
none_below m z i (zero ∷ ks) (b ∷ sq) h (suc j) = none_below m z (suc i) ks sq (λ n. h (suc n)) j
none_below m z i (suc k ∷ ks) (b ∷ sq) h j = none_below m z (suc i) ks sq (λ n. h (suc n)) j

value_none : (k : ℕ) (bs : List ℕ) → Below 1 bs → value 0 (take k bs) ≡ 0
unfolding value
value_none zero bs h = refl
value_none (suc k) [] h = refl
value_none (suc k) (b ∷ bs) h =
    let e : 2 * 0 + b ≡ 0 = omega (arith, h 0) in ap (λ (a : ℕ). value a (take k bs)) e ∙ value_none k bs (λ i. h (suc i))

pub words_none : (n : ℕ) (bs : List ℕ) → Below 1 bs → Below 1 (first_words 8 n bs)
unfolding first_words groups
words_none zero bs h j = omega arith
words_none (suc n) bs h zero = omega (arith, value_none 8 bs h)
words_none (suc n) bs h (suc j) = words_none n (drop 8 bs) (drop_below 1 8 bs h) j

-- its stream has zeros
pub stream_none : (total : ℕ) (m : ℕ → ℕ) (ks sq : List ℕ) → ((i : ℕ) → m i ≡ 0) → Below 1 sq → Below 1 (stream_in total m ks sq)
unfolding to_stream
stream_none total m ks sq z h =
    let cs = first_words 8 total (data_bits m 0 ks sq) in
    store_below 1 (order (length cs)) cs (replicate (length cs) 0) (words_none total (data_bits m 0 ks sq) (none_below m z 0 ks sq h))
    (zeros_below 1 (length cs) (lit< tt))

-- the square of a stream has bits
pub square_below : (m : ℕ → ℕ) (ks s : List ℕ) → ((i : ℕ) → m i < 2) → Below 2 (square_of m ks s)
square_below m ks s small = placed_below m small 0 ks (bits_of (from_stream s)) (bit_lt (from_stream s))
