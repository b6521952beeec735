-- Bytes from bits and back: the bytes that bits come to have these bits, and the bits of bytes come to the bytes.
use Rattle.general.proofs.Names.{◌≡◌, refl, ap, ◌∙◌, sym, List, [], ◌∷◌, flat_map, ℕ, zero, suc, ◌+◌, ◌-◌, ◌*◌, ◌/◌, ◌%◌, ◌^◌, ◌<◌, ◌≤◌, pow-succ', add-mul}
use Rattle.general.proofs.Names.{mul_assoc, add_assoc, mod-eq_of_lt, mul-add-div_right, add-mul-mod_self_right, add_comm, arith, length, get_or, take, drop}
use Rattle.general.proofs.Names.{take-append-drop, length-drop, get_or-drop, length-take-le}
use lib.Pow.{pow-add, pow_pos, high}
use Rattle.bits.specs.Bits.{low_bits, bits_of, value, words, word_bits}
use Rattle.bits.proofs.Words.{words_none, words_more, word_back}

-- bits behind a number
pub value_add : (a : ℕ) (bs : List ℕ) → value a bs ≡ a * 2 ^ length bs + value 0 bs
unfolding value
value_add a [] = omega arith
value_add a (b ∷ bs) =
    let z : 0 * 2 + b ≡ b = omega arith in
    value_add (a * 2 + b) bs
    ∙ rw (z, value_add b bs, pow-succ' 2 (length bs), add-mul (a * 2) b (2 ^ length bs), mul_assoc a 2 (2 ^ length bs))
    (add_assoc (a * (2 * 2 ^ length bs)) (b * 2 ^ length bs) (value 0 bs))

pub value_small : (bs : List ℕ) → ((i : ℕ) → get_or bs i 0 < 2) → value 0 bs < 2 ^ length bs
unfolding value
value_small [] h = omega arith
value_small (b ∷ bs) h =
    let z : 0 * 2 + b ≡ b = omega arith in
    let k = value_small bs (λ i. h (suc i)) in
    let p : 2 ^ suc (length bs) ≡ 2 * 2 ^ length bs = pow-succ' 2 (length bs) in
    rw (z, value_add b bs, p) (go b (h 0) k)
  where
    go : (b : ℕ) → b < 2 → value 0 bs < 2 ^ length bs → b * 2 ^ length bs + value 0 bs < 2 * 2 ^ length bs
    go zero l k = omega arith
    go (suc zero) l k = omega arith
    go (suc (suc b)) l k = absurd (omega arith)

-- bits above the n low ones
even : (c k n : ℕ) → n < k → c * 2 ^ k ≡ c * 2 ^ (k - n - 1) * 2 * 2 ^ n
even c k n h =
    let e : k ≡ k - n - 1 + 1 + n = omega arith in
    ap (λ (z : ℕ). c * 2 ^ z) e ∙ rw (pow-add 2 (k - n - 1 + 1) n, pow-add 2 (k - n - 1) 1)
    (sym (mul_assoc (c * 2 ^ (k - n - 1)) 2 (2 ^ n) ∙ mul_assoc c (2 ^ (k - n - 1)) (2 * 2 ^ n)
    ∙ ap (λ (z : ℕ). c * z) (sym (mul_assoc (2 ^ (k - n - 1)) 2 (2 ^ n)))))

pub low_add : (n k c x : ℕ) → n ≤ k → low_bits n (c * 2 ^ k + x) ≡ low_bits n x
unfolding low_bits
low_add zero k c x h = refl
low_add (suc n) k c x h = rw (bit, low_add n k c x (omega arith))
  where
    bit : (c * 2 ^ k + x) / 2 ^ n % 2 ≡ x / 2 ^ n % 2
    bit =
        rw (even c k n h, mul-add-div_right (pow_pos n) (c * 2 ^ (k - n - 1) * 2) x, add_comm (c * 2 ^ (k - n - 1) * 2) (x / 2 ^ n))
        (add-mul-mod_self_right (x / 2 ^ n) (c * 2 ^ (k - n - 1)) 2)

-- the bits of the number that bits say
pub low_value : (bs : List ℕ) → ((i : ℕ) → get_or bs i 0 < 2) → low_bits (length bs) (value 0 bs) ≡ bs
unfolding low_bits value
low_value [] h = refl
low_value (b ∷ bs) h =
    let z : 0 * 2 + b ≡ b = omega arith in
    let e : value (0 * 2 + b) bs ≡ b * 2 ^ length bs + value 0 bs = rw z (value_add b bs) in
    let s = value_small bs (λ i. h (suc i)) in
    let t : (b * 2 ^ length bs + value 0 bs) / 2 ^ length bs % 2 ≡ b = rw (high b (length bs) s) (mod-eq_of_lt (h 0)) in
    rw (e, t, low_add (length bs) (length bs) b (value 0 bs) (omega arith), low_value bs (λ i. h (suc i)))

pub take_small : (n : ℕ) (bs : List ℕ) → ((i : ℕ) → get_or bs i 0 < 2) → (i : ℕ) → get_or (take n bs) i 0 < 2
take_small zero bs h i = omega arith
take_small (suc n) [] h i = omega arith
take_small (suc n) (b ∷ bs) h zero = h 0
take_small (suc n) (b ∷ bs) h (suc i) = take_small n bs (λ j. h (suc j)) i

pub bits_words : (k : ℕ) (bs : List ℕ) → length bs ≡ 8 * k → ((i : ℕ) → get_or bs i 0 < 2) → bits_of (words 8 bs) ≡ bs
unfolding word_bits flat_map
bits_words zero [] e h = rw (words_none 8 [] (omega arith))
bits_words zero (b ∷ bs) e h = absurd (omega arith)
bits_words (suc k) bs e h =
    let l : length (take 8 bs) ≡ 8 = length-take-le 8 bs (omega arith) in
    let b : low_bits 8 (value 0 (take 8 bs)) ≡ take 8 bs = rw l at (low_value (take 8 bs) (take_small 8 bs h)) in
    rw (words_more 8 bs (omega arith) (omega arith), b, bits_words k (drop 8 bs) (rw length-drop (omega arith)) (λ i. rw get_or-drop (h (8 + i)))) (take-append-drop 8 bs)

pub words_bits : (s : List ℕ) → ((i : ℕ) → get_or s i 0 < 256) → words 8 (bits_of s) ≡ s
unfolding word_bits flat_map
words_bits [] h = words_none 8 [] (omega arith)
words_bits (b ∷ s) h = word_back 8 b (bits_of s) (omega arith) (h 0) ∙ rw (words_bits s (λ i. h (suc i)))
