-- Bits read by bytes: the bytes that hold some bits, as one number, shifted and cut.
use Rattle.general.proofs.Names.{◌≡◌, refl, ◌∙◌, sym, List, [], ◌∷◌, ◌++◌, flat_map, ℕ, zero, suc, ◌+◌, ◌-◌, ◌*◌, ◌/◌, ◌%◌, ◌^◌, ◌<◌, ◌≤◌, mod-eq_of_lt}
use Rattle.general.proofs.Names.{lt_of_lt_of_le, one-mul, arith, le-leb, length, get_or, take, drop, take-add, drop-drop, length-take-le}
use Rattle.general.proofs.Names.{take_at, drop_at}
use lib.Pow.{high, low, pow_mono, shl_exact}
use Rattle.bits.specs.declared.Word.TheVariants.{Value}
use Rattle.bits.specs.Bits.{low_bits, bits_of, value, read_bits, word_bits}
use Rattle.bits.proofs.Reading.{length_left, value_lt}
use Rattle.bits.proofs.Words.{length_low, value_low}
use Rattle.bits.proofs.Bytes.{value_add}

value_append : (a : ℕ) (xs ys : List ℕ) → value a (xs ++ ys) ≡ value (value a xs) ys
unfolding value
value_append a [] ys = refl
value_append a (x ∷ xs) ys = value_append (a * 2 + x) xs ys

-- the middle of three parts
cut_out : (x m z : List ℕ) (n p : ℕ) → length m ≡ n → length z ≡ p → value 0 m < 2 ^ n → value 0 z < 2 ^ p
    → value 0 (x ++ (m ++ z)) / 2 ^ p % 2 ^ n ≡ value 0 m
cut_out x m z n p en ep hm hz =
    let y : ℕ = value 0 x in
    rw (value_append, value_append, value_add (value y m), ep, high (value y m) p hz, value_add y, en, low y n hm)

-- the bits of the byte i
byte_bits : (s : List ℕ) (i : ℕ) → i < length s → take 8 (drop (8 * i) (bits_of s)) ≡ low_bits 8 (get_or s i 0)
unfolding word_bits flat_map
byte_bits [] i h = absurd (omega arith)
byte_bits (b ∷ s) zero h = take_at (low_bits 8 b) (bits_of s) 8 (length_low 8 b)
byte_bits (b ∷ s) (suc i) h =
    let e : 8 * suc i ≡ 8 + 8 * i = omega arith in
    rw (e, ← drop-drop (8 * i) 8 (low_bits 8 b ++ bits_of s), drop_at (low_bits 8 b) (bits_of s) 8 (length_low 8 b)) (byte_bits s i (omega arith))

-- the first k bytes from the byte f on, as a number
pub window : List ℕ → ℕ → ℕ → ℕ
window s f k = value 0 (take (8 * k) (drop (8 * f) (bits_of s)))

pub window_none : (s : List ℕ) (f : ℕ) → 0 ≡ window s f 0
unfolding window value
window_none s f = refl

pub window_more : (s : List ℕ) (f k b : ℕ) → f + k < length s → b < 256 → b ≡ get_or s (f + k) 0 → window s f k * 256 + b ≡ window s f (k + 1)
unfolding window
window_more s f k b h l e =
    let z : 8 * (k + 1) ≡ 8 * k + 8 = omega arith in
    let y : 8 * f + 8 * k ≡ 8 * (f + k) = omega arith in
    sym (rw (z, take-add (8 * k) 8, value_append, drop-drop (8 * k) (8 * f), y, byte_bits s (f + k) h, ← e, value_low, mod-eq_of_lt l))

pub window_small : (s : List ℕ) (f k m : ℕ) → f + k ≤ length s → k ≤ m → window s f k < 2 ^ (8 * m)
unfolding window
window_small s f k m h l = lt_of_lt_of_le (value_lt s (8 * f) (8 * k)) (pow_mono (omega arith))

-- n bits from the position at = 8 f + r on, out of the k bytes from f on
pub window_read : (s : List ℕ) (f k r n p : ℕ) → f + k ≤ length s → r + n + p ≡ 8 * k → window s f k / 2 ^ p % 2 ^ n ≡ value 0 (take n (drop (8 * f + r) (bits_of s)))
unfolding window
window_read s f k r n p h e =
    let z : 8 * k ≡ r + (n + p) = omega arith in
    let lm : length (take n (drop (8 * f + r) (bits_of s))) ≡ n = length-take-le n _ (rw length_left (omega arith)) in
    let lz : length (take p (drop (8 * f + r + n) (bits_of s))) ≡ p = length-take-le p _ (rw length_left (omega arith)) in
    rw (z, take-add r (n + p), take-add n p, drop-drop r (8 * f), drop-drop n (8 * f + r))
    (cut_out (take r (drop (8 * f) (bits_of s))) _ _ n p lm lz (value_lt s (8 * f + r) n) (value_lt s (8 * f + r + n) p))

-- what `read_bits` answers
pub one_shifted : (n : ℕ) → n ≤ 24 → (1 * 2 ^ n) % 2 ^ 64 ≡ 2 ^ n
one_shifted n h = shl_exact {a = 1} 1 n 64 (omega arith) (omega arith) ∙ one-mul (2 ^ n)

-- out of the k bytes from the byte of the position on, with p bits behind
read_out : (s : List ℕ) (at n v k p : ℕ) → at / 8 + k ≤ length s → at % 8 + n + p ≡ 8 * k → n ≤ 21 → v ≡ window s (at / 8) k
    → Value (v / 2 ^ p % ((1 * 2 ^ n) % 2 ^ 64)) ≡ read_bits n (drop at (bits_of s))
unfolding read_bits
read_out s at n v k p h q l e =
    let z : 8 * (at / 8) + at % 8 ≡ at = omega arith in
    let m : n ≤ length (drop at (bits_of s)) = rw length_left (omega arith) in
    rw (le-leb n (length (drop at (bits_of s))) m, e, one_shifted n (omega arith), window_read s (at / 8) k (at % 8) n p h q, z)

pub read_window : (s : List ℕ) (at n v : ℕ) → at + n ≤ 8 * length s → n ≤ 21 → v ≡ window s (at / 8) ((at + n + 7) / 8 - at / 8)
    → Value (v / 2 ^ (8 * ((at + n + 7) / 8) - (at + n)) % ((1 * 2 ^ n) % 2 ^ 64)) ≡ read_bits n (drop at (bits_of s))
read_window s at n v h l e = read_out s at n v ((at + n + 7) / 8 - at / 8) (8 * ((at + n + 7) / 8) - (at + n)) (omega arith) (omega arith) l e

-- four bytes at once
pub window_four : (s : List ℕ) (f a b c d : ℕ) → f + 4 ≤ length s → (a < 256) × (b < 256) × (c < 256) × (d < 256) → a ≡ get_or s f 0
    → b ≡ get_or s (f + 1) 0 → c ≡ get_or s (f + 2) 0 → d ≡ get_or s (f + 3) 0
    → ((a * 256 + b) * 256 + c) * 256 + d ≡ window s f 4
window_four s f a b c d h l ea eb ec ed =
    let z : f + 0 ≡ f = omega arith in
    let none = window_none s f in
    let more = window_more s f 0 a (omega arith) l.0 (rw z ea) in
    let one : a ≡ window s f 1 = omega arith in
    rw one (rw (window_more s f 1 b (omega arith) l.1 eb, window_more s f 2 c (omega arith) l.2 ec) (window_more s f 3 d (omega arith) l.3 ed))

pub read_four : (s : List ℕ) (at n v : ℕ) → at / 8 + 4 ≤ length s → n ≤ 21 → v ≡ window s (at / 8) 4
    → Value (v / 2 ^ (32 - at % 8 - n) % ((1 * 2 ^ n) % 2 ^ 64)) ≡ read_bits n (drop at (bits_of s))
read_four s at n v h l e = read_out s at n v 4 (32 - at % 8 - n) h (omega arith) l e
