-- A bit that is set in a list of bits, seen from the words.
use Rattle.general.proofs.Names.{◌≡◌, refl, ap, ap₂, ◌∙◌, List, [], ◌∷◌, ℕ, zero, suc, ◌+◌, ◌-◌, ◌*◌, ◌/◌, ◌%◌, ◌^◌, ◌<◌, ◌≤◌, add-mul, one-mul}
use Rattle.general.proofs.Names.{add-zero, div-add-mod', mod-lt, lit<, arith, length, get_or, set, take, drop, length-take-le, length-drop, get_or-take}
use Rattle.general.proofs.Names.{get_or-drop, take-set-lt, drop-set-lt}
use lib.Seq.{take-set-le, drop-set-add}
use lib.Pow.{pow-add, shl-shr}
use Rattle.bits.specs.Bits.{value, groups, first_words}
use Rattle.bits.proofs.Bytes.{value_add}
use Rattle.flags.specs.Inner.{flagged}

-- bits behind a number that is greater by one
value_more : (a : ℕ) (bs : List ℕ) → value (a + 1) bs ≡ value a bs + 2 ^ length bs
value_more a bs = omega (arith, value_add (a + 1) bs, value_add a bs, add-mul a 1 (2 ^ length bs), one-mul (2 ^ length bs))

value_set : (a k : ℕ) (bs : List ℕ) (p : ℕ) → p + suc k ≡ length bs → get_or bs p 0 ≡ 0 → value a (set bs p 1) ≡ value a bs + 2 ^ k
unfolding value
value_set a k [] p e z = absurd (omega arith)
value_set a k (b ∷ bs) zero e z = let l : length bs ≡ k = omega arith in rw (z, ← l, add-zero) (value_more (a * 2) bs)
value_set a k (b ∷ bs) (suc p) e z = value_set (a * 2 + b) k bs p (omega arith) z

-- the weight of bit r of a byte, as the code computes it
weight : (r : ℕ) → r < 8 → 128 / 2 ^ r ≡ 2 ^ (7 - r)
weight r l =
    let k : 7 ≡ 7 - r + r = omega arith in
    ap (λ (x : ℕ). 2 ^ x / 2 ^ r) k ∙ rw (pow-add 2 (7 - r) r) (shl-shr (2 ^ (7 - r)) r)

-- bit r of word q
words_set : (n q r : ℕ) (bs : List ℕ) → r < 8 → 8 * n ≤ length bs → get_or bs (8 * q + r) 0 ≡ 0
    → first_words 8 n (set bs (8 * q + r) 1) ≡ set (first_words 8 n bs) q (get_or (first_words 8 n bs) q 0 + 128 / 2 ^ r)
unfolding first_words groups
words_set zero q r bs l h z = refl
words_set (suc n) zero r bs l h z =
    let e : 8 * 0 + r ≡ r = omega arith in
    let few : r + suc (7 - r) ≡ length (take 8 bs) = omega (arith, length-take-le 8 bs (omega arith)) in
    rw (e, weight r l) (ap₂ ◌∷◌ (rw (take-set-lt 8 bs r 1 l) (value_set 0 (7 - r) (take 8 bs) r few (get_or-take 8 bs r 0 l ∙ (rw e at z))))
    (ap (first_words 8 n) (drop-set-lt 8 bs r 1 l)))
words_set (suc n) (suc q) r bs l h z =
    let e : 8 * suc q + r ≡ 8 + (8 * q + r) = omega arith in
    rw e (ap₂ ◌∷◌ (ap (value 0) (take-set-le 8 bs (8 + (8 * q + r)) 1 (omega arith)))
    (ap (first_words 8 n) (drop-set-add 8 bs (8 * q + r) 1)
    ∙ words_set n q r (drop 8 bs) l (omega (arith, length-drop 8 bs)) (get_or-drop 8 bs (8 * q + r) 0 ∙ (rw e at z))))

-- the words of bits of which one more is set
pub words_flagged : (n p : ℕ) (bs : List ℕ) → 8 * n ≤ length bs → get_or bs p 0 ≡ 0 → first_words 8 n (set bs p 1) ≡ flagged p (first_words 8 n bs)
words_flagged n p bs h z =
    let e : 8 * (p / 8) + p % 8 ≡ p = omega (arith, div-add-mod' p 8) in
    rw e at (words_set n (p / 8) (p % 8) bs (mod-lt p (lit< tt)) h (rw e z))
