-- Bits of codewords, and codewords of bits.
use Rattle.general.proofs.Names.{◌≡◌, refl, ◌∙◌, ap₂, ◌≢◌, List, [], ◌∷◌, ◌++◌, flat_map, ℕ, zero, suc, ◌+◌, ◌*◌, ◌<◌, zero-add, suc-add, suc-mul, zero-mul, add_comm, arith}
use Rattle.general.proofs.Names.{ℕ_discrete, length, get_or, take, drop, take-take, take-nil, drop-nil, drop-drop, get_or-drop}
use Rattle.bits.specs.Bits.{low_bits, bits_of, value, word_bits, groups, first_words}
use Rattle.bits.proofs.Words.{value_low}

-- each is a byte
abbrev pub Bytes : List ℕ → Type 0
Bytes [] = Unit {0}
Bytes (b ∷ bs) = (b < 256) × Bytes bs

-- bytes that were written as bits are read back, whatever follows
pub codewords_back : (cs rest : List ℕ) → Bytes cs → first_words 8 (length cs) (bits_of cs ++ rest) ≡ cs
unfolding word_bits flat_map first_words groups low_bits
codewords_back [] rest h = refl
codewords_back (c ∷ cs) rest h = ap₂ ◌∷◌ (let e = value_low 8 0 c in omega arith) (codewords_back cs rest h.1)

drop_take : (n k : ℕ) (bs : List ℕ) → drop n (take (n + k) bs) ≡ take k (drop n bs)
drop_take zero k bs = rw zero-add
drop_take (suc n) k [] = simp (take-nil, drop-nil)
drop_take (suc n) k (b ∷ bs) = rw suc-add (drop_take n k bs)

-- words are those of their own bits
pub first_front : (w n : ℕ) (bs : List ℕ) → first_words w n (take (n * w) bs) ≡ first_words w n bs
unfolding first_words groups
first_front w zero bs = refl
first_front w (suc n) bs =
    rw (suc-mul, add_comm (n * w) w, take-take w (w + n * w) bs (omega arith), drop_take w (n * w) bs, first_front w n (drop w bs))

-- ---- a word is not 0 exactly where one of its bits is not

value_kept : (a : ℕ) (bs : List ℕ) → a ≢ 0 → value a bs ≢ 0
unfolding value
value_kept a [] h = h
value_kept a (b ∷ bs) h = value_kept (a * 2 + b) bs (λ z. h (omega arith))

value_by : (w a : ℕ) (bs : List ℕ) (k : ℕ) → k < w → get_or bs k 0 ≢ 0 → value a (take w bs) ≢ 0
unfolding value
value_by zero a bs k h d = absurd (omega arith)
value_by (suc w) a [] k h d = absurd (d refl)
value_by (suc w) a (b ∷ bs) zero h d = value_kept (a * 2 + b) (take w bs) (λ z. d (omega arith))
value_by (suc w) a (b ∷ bs) (suc k) h d = value_by w (a * 2 + b) bs k (omega arith) d

value_from : (w a : ℕ) (bs : List ℕ) → a ≡ 0 → value a (take w bs) ≢ 0 → (k : ℕ) × (k < w) × (get_or bs k 0 ≢ 0)
unfolding value
value_from zero a bs z d = absurd (d z)
value_from (suc w) a [] z d = absurd (d z)
value_from (suc w) a (b ∷ bs) z d = elim (ℕ_discrete b 0) [
  | yes e ↦ (let x = value_from w (a * 2 + b) bs (omega arith) d in (suc x.0, omega arith, x.2))
  | no e ↦ (0, omega arith, e)
]

module _ (w : ℕ) where
  word_is : (total : ℕ) (bs : List ℕ) (n : ℕ) → n < total → get_or (first_words w total bs) n 0 ≡ value 0 (take w (drop (n * w) bs))
  unfolding first_words groups
  word_is zero bs n h = absurd (omega arith)
  word_is (suc total) bs zero h = simp zero-mul
  word_is (suc total) bs (suc n) h = word_is total (drop w bs) n (omega arith) ∙ rw (drop-drop (n * w) w bs, suc-mul, add_comm w (n * w))

  module _ (total : ℕ) (bs : List ℕ) (n : ℕ) (h : n < total) where
    pub word_by : (k : ℕ) → k < w → get_or bs (n * w + k) 0 ≢ 0 → get_or (first_words w total bs) n 0 ≢ 0
    word_by k l d = rw word_is (value_by w 0 (drop (n * w) bs) k l (rw get_or-drop d))

    pub word_from : get_or (first_words w total bs) n 0 ≢ 0 → (k : ℕ) × (k < w) × (get_or bs (n * w + k) 0 ≢ 0)
    word_from d =
        let x = value_from w 0 (drop (n * w) bs) refl (rw (word_is total bs n h) at d) in
        (x.0, x.1, rw get_or-drop at x.2)
