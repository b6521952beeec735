-- Bytes and bits that are set to zero from a place on.
use Rattle.general.proofs.Names.{◌≡◌, refl, ap, ◌∙◌, sym, List, [], ◌∷◌, ◌++◌, append-nil, append_assoc, flat_map, ℕ, zero, suc, ◌+◌, ◌-◌, ◌*◌, ◌/◌, ◌%◌}
use Rattle.general.proofs.Names.{◌<◌, ◌≤◌, zero-div, zero-mod, add-one, arith, length, get_or, take, drop, set, replicate, length-append, length-replicate}
use Rattle.general.proofs.Names.{drop_of_length-le, replicate-append-replicate, take-append-drop, set_at, drop-cons, length-take-le, take-nil, append_snoc}
use Rattle.bits.specs.Bits.{low_bits, bits_of, word_bits}

-- the bytes s with zeros from the place f to the place i
pub cleared : List ℕ → ℕ → ℕ → List ℕ
cleared s f i = take f s ++ replicate (i - f) 0 ++ drop i s

pub clear_start : (s : List ℕ) (f : ℕ) → s ≡ cleared s f f
unfolding cleared
clear_start s f = let z : f - f ≡ 0 = omega arith in rw z (rw append-nil (sym (take-append-drop f s)))

pub clear_more : (s : List ℕ) (f i : ℕ) → f ≤ i → i < length s → set (cleared s f i) i 0 ≡ cleared s f (i + 1)
unfolding cleared
clear_more s f i l h =
    let x : List ℕ = take f s ++ replicate (i - f) 0 in
    let n : length x ≡ i = length-append (take f s) (replicate (i - f) 0) ∙ rw (length-take-le f s (omega arith), length-replicate {A = ℕ} (i - f) 0)
    (omega arith) in
    let m : i + 1 - f ≡ i - f + 1 = omega arith in
    rw (drop-cons s i 0 h, m, ← replicate-append-replicate {A = ℕ} (i - f) 1 0, add-one)
    (set_at x (get_or s i 0) (drop (suc i) s) 0 i n ∙ sym (ap (λ (l : List ℕ). l ++ drop (suc i) s)
    (sym (append_assoc (take f s) (replicate (i - f) 0) (0 ∷ []))) ∙ append_snoc x 0 (drop (suc i) s)))

pub clear_end : (s : List ℕ) (f i : ℕ) → i ≡ length s → cleared s f i ≡ take f s ++ replicate (length s - f) 0
unfolding cleared
clear_end s f i h =
    let l : length s ≤ i = omega arith in
    rw (drop_of_length-le s l, append-nil, h)

bits_append : (xs ys : List ℕ) → bits_of (xs ++ ys) ≡ bits_of xs ++ bits_of ys
unfolding word_bits flat_map
bits_append [] ys = refl
bits_append (x ∷ xs) ys = rw (bits_append xs ys) (sym (append_assoc (low_bits 8 x) (bits_of xs) (bits_of ys)))

bits_take : (s : List ℕ) (f : ℕ) → bits_of (take f s) ≡ take (8 * f) (bits_of s)
unfolding word_bits flat_map low_bits
bits_take s zero = refl
bits_take [] (suc f) = sym (take-nil (8 * suc f))
bits_take (x ∷ s) (suc f) =
    let e : 8 * suc f ≡ suc (suc (suc (suc (suc (suc (suc (suc (8 * f)))))))) = omega arith in
    rw (e, bits_take s f)

zero_low : (n : ℕ) → low_bits n 0 ≡ replicate n 0
unfolding low_bits
zero_low zero = refl
zero_low (suc n) = rw (zero-div, zero-mod, zero_low n)

zero_bits : (n : ℕ) → bits_of (replicate n 0) ≡ replicate (8 * n) 0
unfolding word_bits flat_map low_bits
zero_bits zero = refl
zero_bits (suc n) =
    let e : 8 * suc n ≡ suc (suc (suc (suc (suc (suc (suc (suc (8 * n)))))))) = omega arith in
    rw (e, zero_bits n)

-- what `pad` leaves: zeros up to the end of a byte, then bytes of zeros
pub padded : (s t u : List ℕ) (at : ℕ) → length t ≡ length s → at ≤ 8 * length s
    → take (at + (8 - at % 8) % 8) (bits_of t) ≡ take at (bits_of s) ++ low_bits ((8 - at % 8) % 8) 0
    → u ≡ take ((at + 7) / 8) t ++ replicate (length t - (at + 7) / 8) 0 → bits_of u ≡ take at (bits_of s) ++ replicate (8 * length s - at) 0
padded s t u at l h e f =
    let k : ℕ = (8 - at % 8) % 8 in
    let b : ℕ = (at + 7) / 8 in
    let z : 8 * b ≡ at + k = omega arith in
    let m : k + 8 * (length t - b) ≡ 8 * length s - at = omega arith in
    rw (
      f,
      bits_append (take b t) (replicate (length t - b) 0),
      bits_take t b,
      zero_bits (length t - b),
      z,
      e,
      zero_low k,
      append_assoc (take at (bits_of s)) (replicate k 0) (replicate (8 * (length t - b)) 0),
      replicate-append-replicate {A =
          ℕ} k (8 * (length t - b)) 0,
      m,
    )
