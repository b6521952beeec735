-- Laws of bits that are read: the bit at a position, how many are left, and how large a number of n bits is.
use Rattle.general.proofs.Names.{◌≡◌, refl, List, [], ◌∷◌, flat_map, ℕ, zero, suc, ◌+◌, ◌-◌, ◌*◌, ◌/◌, ◌%◌, ◌^◌, ◌<◌, ◌≤◌, zero-div, zero-mod, add-zero}
use Rattle.general.proofs.Names.{zero-add, lt_of_lt_of_le, pow-suc, arith, length, get_or, take, drop, length-drop, get_or-drop, lt-leb}
use lib.Pow.{pow_mono}
use Rattle.bits.specs.declared.Word.TheVariants.{Cut}
use Rattle.bits.specs.Bits.{low_bits, bits_of, value, read_bits, word_bits}

pub length_bits : (s : List ℕ) → length (bits_of s) ≡ 8 * length s
unfolding word_bits flat_map low_bits
length_bits [] = refl
length_bits (b ∷ s) = let h = length_bits s in omega arith

pub bit_at : (s : List ℕ) (i : ℕ) → get_or (bits_of s) i 0 ≡ get_or s (i / 8) 0 / 2 ^ (7 - i % 8) % 2
unfolding word_bits flat_map low_bits
bit_at [] i = rw (zero-div, zero-mod)
bit_at (b ∷ s) zero = refl
bit_at (b ∷ s) (suc zero) = refl
bit_at (b ∷ s) (suc (suc zero)) = refl
bit_at (b ∷ s) (suc (suc (suc zero))) = refl
bit_at (b ∷ s) (suc (suc (suc (suc zero)))) = refl
bit_at (b ∷ s) (suc (suc (suc (suc (suc zero))))) = refl
bit_at (b ∷ s) (suc (suc (suc (suc (suc (suc zero)))))) = refl
bit_at (b ∷ s) (suc (suc (suc (suc (suc (suc (suc zero))))))) = refl
bit_at (b ∷ s) (suc (suc (suc (suc (suc (suc (suc (suc i)))))))) =
    let d : suc (suc (suc (suc (suc (suc (suc (suc i))))))) / 8 ≡ suc (i / 8) = omega arith in
    let m : suc (suc (suc (suc (suc (suc (suc (suc i))))))) % 8 ≡ i % 8 = omega arith in
    rw (d, m) (bit_at s i)

pub bit_lt : (s : List ℕ) (i : ℕ) → get_or (bits_of s) i 0 < 2
bit_lt s i = omega (arith, bit_at s i)

pub length_left : (s : List ℕ) (at : ℕ) → length (drop at (bits_of s)) ≡ 8 * length s - at
length_left s at = rw (length-drop, length_bits)

pub read_short : (s : List ℕ) (at n : ℕ) → 8 * length s < at + n → at ≤ 8 * length s → Cut ≡ read_bits n (drop at (bits_of s))
unfolding read_bits
read_short s at n h g = simp (length_left, lt-leb n (8 * length s - at) (omega arith))

-- n bits behind a number of k bits say a number of k + n bits
pub value_bound : (bs : List ℕ) (n v k : ℕ) → ((i : ℕ) → get_or bs i 0 < 2) → v < 2 ^ k → value v (take n bs) < 2 ^ (k + n)
unfolding value
value_bound bs zero v k h g = rw add-zero g
value_bound [] (suc n) v k h g = lt_of_lt_of_le g (pow_mono (omega arith))
value_bound (b ∷ bs) (suc n) v k h g =
    let e : k + suc n ≡ suc k + n = omega arith in
    rw e (value_bound bs n (v * 2 + b) (suc k) (λ i. h (suc i)) (omega (arith, pow-suc 2 k, h 0)))

pub value_lt : (s : List ℕ) (at n : ℕ) → value 0 (take n (drop at (bits_of s))) < 2 ^ n
value_lt s at n = rw zero-add at (value_bound (drop at (bits_of s)) n 0 0 (λ i. rw get_or-drop (bit_lt s (at + i))) (omega arith))
