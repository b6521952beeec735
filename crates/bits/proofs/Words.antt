-- Laws of words: what `read_bits` says of the words from a position on, and words that are written and read back.
use Rattle.general.proofs.Names.{◌≡◌, refl, ap, ◌∙◌, Bool, true, false, List, [], ◌∷◌, ◌++◌, append_assoc, flat_map, ℕ, zero, suc, ◌+◌, ◌*◌, ◌/◌, ◌%◌, ◌^◌}
use Rattle.general.proofs.Names.{◌<◌, ◌≤◌, div-eq_of_lt, div-eq-sub-div, mod-one, pow-succ', add-mul, mul_assoc, add_assoc, mod-eq_of_lt, zero-mul}
use Rattle.general.proofs.Names.{zero-add, mul-suc, add-zero, add-one, one-add, arith, leb-true, leb-false, leb, length, get_or, take, drop, set, length-drop}
use Rattle.general.proofs.Names.{length-append, sets, drop-drop, take_at, drop_at}
use lib.Pow.{mod-pow-add}
use Rattle.bits.specs.declared.Word.{Word}
use Rattle.bits.specs.declared.Word.TheVariants.{Value, Cut}
use Rattle.bits.specs.Bits.{low_bits, bits_of, value, read_bits, first_words, words, word_bits, groups}
use Rattle.bits.proofs.Reading.{length_left, value_lt}

pub words_none : (w : ℕ) (bs : List ℕ) → length bs < w → words w bs ≡ []
unfolding words first_words groups
words_none w bs h = rw (div-eq_of_lt h)

pub words_more : (w : ℕ) (bs : List ℕ) → 0 < w → w ≤ length bs → words w bs ≡ value 0 (take w bs) ∷ words w (drop w bs)
unfolding words first_words groups
words_more w bs p h = rw (div-eq-sub-div p h, add-one, length-drop)

-- a word v of w bits stands at the position `at` of the bytes s
pub record WordAt (w at v : ℕ) (s : List ℕ) : Type 0 where
  pub room : at + w ≤ 8 * length s
  pub small : v < 2 ^ w
  pub is : v ≡ value 0 (take w (drop at (bits_of s)))
  pub next : words w (drop at (bits_of s)) ≡ v ∷ words w (drop (at + w) (bits_of s))

-- what the two answers of `read_bits` say
module _ (w at : ℕ) (s : List ℕ) (r : Word) (e : r ≡ read_bits w (drop at (bits_of s))) where
  pub word_read : (v : ℕ) → 0 < w → at ≤ 8 * length s → r ≡ Value v → WordAt w at v s
  unfolding read_bits
  word_read v p h g = go (leb w (length (drop at (bits_of s)))) refl
    where
      go : (b : Bool) → leb w (length (drop at (bits_of s))) ≡ b → WordAt w at v s
      go true q =
          let h' : w ≤ length (drop at (bits_of s)) = leb-true w (length (drop at (bits_of s))) q in
          let k : r ≡ Value (value 0 (take w (drop at (bits_of s)))) = rw q at e in
          let v' : v ≡ value 0 (take w (drop at (bits_of s))) = cc in
          record {
            room = omega (arith, length_left s at);
            small = rw v' (value_lt s at w);
            is = v';
            next = words_more w (drop at (bits_of s)) p h' ∙ rw (drop-drop w at (bits_of s), v');
          }
      go false q =
          let k : r ≡ Cut = rw q at e in
          let z : ◌≡◌ {A = ℕ} 0 1 = cc in
          absurd (omega arith)

  pub word_few : r ≡ Cut → length (drop at (bits_of s)) < w
  unfolding read_bits
  word_few g = go (leb w (length (drop at (bits_of s)))) refl
    where
      go : (b : Bool) → leb w (length (drop at (bits_of s))) ≡ b → length (drop at (bits_of s)) < w
      go true q =
          let k : r ≡ Value (value 0 (take w (drop at (bits_of s)))) = rw q at e in
          let z : ◌≡◌ {A = ℕ} 0 1 = cc in
          absurd (omega arith)
      go false q = leb-false w (length (drop at (bits_of s))) q

  pub word_cut : r ≡ Cut → words w (drop at (bits_of s)) ≡ []
  word_cut g = words_none w (drop at (bits_of s)) (word_few g)

-- a list stored in two parts
pub sets_append : (o : List ℕ) (n : ℕ) (cs b : List ℕ) → sets o n (cs ++ b) ≡ sets (sets o n cs) (n + length cs) b
sets_append o n [] b = rw add-zero
sets_append o n (c ∷ cs) b =
    let e : n + suc (length cs) ≡ suc n + length cs = omega arith in
    rw e (sets_append (set o n c) (suc n) cs b)

-- ---- written and read back

pub length_low : (n v : ℕ) → length (low_bits n v) ≡ n
unfolding low_bits
length_low zero v = refl
length_low (suc n) v = ap suc (length_low n v)

pub value_low : (n a v : ℕ) → value a (low_bits n v) ≡ a * 2 ^ n + v % 2 ^ n
unfolding low_bits value
value_low zero a v = omega (arith, mod-one v)
value_low (suc n) a v = value_low n (a * 2 + v / 2 ^ n % 2) v ∙
    rw (← one-add n, mod-pow-add v 1 n, one-add, pow-succ' 2 n, add-mul (a * 2) (v / 2 ^ n % 2) (2 ^ n), mul_assoc a 2 (2 ^ n))
    (add_assoc (a * (2 * 2 ^ n)) ((v / 2 ^ n % 2) * 2 ^ n) (v % 2 ^ n))

-- a number of n bits is what its bits say
pub low_back : (n v : ℕ) → v < 2 ^ n → value 0 (low_bits n v) ≡ v
low_back n v h = value_low n 0 v ∙ rw (zero-mul, zero-add) (mod-eq_of_lt h)

pub length_words : (w : ℕ) (vs : List ℕ) → length (word_bits w vs) ≡ w * length vs
unfolding word_bits flat_map
length_words w [] = omega arith
length_words w (v ∷ vs) = length-append (low_bits w v) (word_bits w vs) ∙ rw (length_low, length_words w vs, mul-suc) (omega arith)

pub first_length : (w k : ℕ) (bs : List ℕ) → length (first_words w k bs) ≡ k
unfolding first_words groups
first_length w zero bs = refl
first_length w (suc k) bs = ap suc (first_length w k (drop w bs))

-- words that were written as bits are read back, whatever follows
pub first_back : (w : ℕ) (vs rest : List ℕ) → ((i : ℕ) → get_or vs i 0 < 2 ^ w) → first_words w (length vs) (word_bits w vs ++ rest) ≡ vs
unfolding word_bits flat_map first_words groups
first_back w [] rest h = refl
first_back w (v ∷ vs) rest h =
    rw (
      append_assoc (low_bits w v) (word_bits w vs) rest,
      take_at (low_bits w v) (word_bits w vs ++ rest) w (length_low w v),
      drop_at (low_bits w v) (word_bits w vs ++ rest) w (length_low w v),
      low_back w v (h 0),
      first_back w vs rest (λ i. h (suc i)),
    )

-- one word in front
pub word_back : (w v : ℕ) (rest : List ℕ) → 0 < w → v < 2 ^ w → words w (low_bits w v ++ rest) ≡ v ∷ words w rest
word_back w v rest p h =
    words_more w (low_bits w v ++ rest) p (omega (arith, length-append (low_bits w v) rest, length_low w v))
    ∙ rw (take_at (low_bits w v) rest w (length_low w v), drop_at (low_bits w v) rest w (length_low w v), low_back w v h)

pub words_back : (w : ℕ) (vs rest : List ℕ) → 0 < w → ((i : ℕ) → get_or vs i 0 < 2 ^ w) → words w (word_bits w vs ++ rest) ≡ vs ++ words w rest
unfolding word_bits flat_map
words_back w [] rest p h = refl
words_back w (v ∷ vs) rest p h =
    ap (words w) (append_assoc (low_bits w v) (word_bits w vs) rest)
    ∙ word_back w v (word_bits w vs ++ rest) p (h 0)
    ∙ ap (λ (r : List ℕ). v ∷ r) (words_back w vs rest p (λ i. h (suc i)))
