-- Laws of writing: a flipped bit of a byte is a changed bit of the list, and what a turn of `write_bits` does.
use Rattle.general.proofs.Names.{◌≡◌, refl, ap, ◌∙◌, sym, List, [], ◌∷◌, ◌++◌, flat_map, ℕ, zero, suc, ◌+◌, ◌-◌, ◌*◌, ◌/◌, ◌%◌, ◌^◌, ◌<◌, ◌≤◌}
use Rattle.general.proofs.Names.{mul-mod_left, div-eq_of_lt, pow-suc, div_self, le_of_suc-le-suc, one-mul, not-suc-le-zero, arith, length}
use Rattle.general.proofs.Names.{get_or, set, sets, ℕ_discrete, set-append_left, set-get_or, bit_xor, xor_shr, xor_mod, xor_zero_r}
use lib.Pow.{pow-add, shl-shr, pow-lt, pow_pos, shl_exact}
use Rattle.bits.specs.Bits.{low_bits, bits_of, word_bits}
use Rattle.bits.proofs.Reading.{bit_at}

-- bit m of x ^ y
xor_bit : (x y m : ℕ) → bit_xor x y / 2 ^ m % 2 ≡ bit_xor (x / 2 ^ m % 2) (y / 2 ^ m % 2)
xor_bit x y m = ap (λ (z : ℕ). z % 2) (xor_shr x y m) ∙ xor_mod (x / 2 ^ m) (y / 2 ^ m) 1

keep : (x y m : ℕ) → y / 2 ^ m % 2 ≡ 0 → bit_xor x y / 2 ^ m % 2 ≡ x / 2 ^ m % 2
keep x y m e = xor_bit x y m ∙ ap (λ (z : ℕ). bit_xor (x / 2 ^ m % 2) z) e ∙ xor_zero_r (x / 2 ^ m % 2)

above : (k n : ℕ) → k < n → 2 ^ k / 2 ^ n % 2 ≡ 0
above k n h = ap (λ (z : ℕ). z % 2) (div-eq_of_lt (pow-lt h))

below : (k n : ℕ) → n < k → 2 ^ k / 2 ^ n % 2 ≡ 0
below k n h =
    let e : k ≡ suc (k - n - 1) + n = omega arith in
    ap (λ (z : ℕ). 2 ^ z / 2 ^ n % 2) e ∙ rw (pow-add 2 (suc (k - n - 1)) n, shl-shr (2 ^ suc (k - n - 1)) n, pow-suc 2 (k - n - 1)) (mul-mod_left _ 2)

-- bits below the one that is flipped stay
stay : (n k x : ℕ) → n ≤ k → low_bits n (bit_xor x (2 ^ k)) ≡ low_bits n x
unfolding low_bits
stay zero k x h = refl
stay (suc n) k x h = rw (keep x (2 ^ k) n (below k n h), stay n k x (omega arith))

flipped : (o b : ℕ) → o < 2 → b < 2 → (o ≡ b → ⊥) → bit_xor o 1 ≡ b
flipped zero zero p q f = absurd (f refl)
flipped zero (suc zero) p q f = refl
flipped (suc zero) zero p q f = refl
flipped (suc zero) (suc zero) p q f = absurd (f refl)
flipped zero (suc (suc b)) p q f = omega arith
flipped (suc zero) (suc (suc b)) p q f = omega arith
flipped (suc (suc o)) b p q f = omega arith

-- the bit k is flipped, and no other
flip : (n k x b : ℕ) → k < n → b < 2 → (x / 2 ^ k % 2 ≡ b → ⊥) → low_bits n (bit_xor x (2 ^ k)) ≡ set (low_bits n x) (n - 1 - k) b
unfolding low_bits
flip zero k x b h l f = refl
flip (suc n) k x b h l f = elim (ℕ_discrete k n) [
  | yes e ↦
      let z : suc n - 1 - k ≡ 0 = omega arith in
      let o : bit_xor x (2 ^ k) / 2 ^ n % 2 ≡ b = rw (← e) (xor_bit x (2 ^ k) k ∙ rw (div_self (pow_pos k)) (flipped (x / 2 ^ k % 2) b (omega arith) l f)) in
      rw (z, o, stay n k x (omega arith))
  | no d ↦
      let q : k < n = omega arith in
      let z : suc n - 1 - k ≡ suc (n - 1 - k) = omega arith in
      rw (z, keep x (2 ^ k) n (above k n q), flip n k x b q l f)
]

flips : (s : List ℕ) (i j b : ℕ) → i < length s → j < 8 → b < 2 → (get_or s i 0 / 2 ^ (7 - j) % 2 ≡ b → ⊥)
    → bits_of (set s i (bit_xor (get_or s i 0) (2 ^ (7 - j)))) ≡ set (bits_of s) (8 * i + j) b
unfolding word_bits flat_map low_bits
flips [] i j b h g l f = absurd (not-suc-le-zero h)
flips (x ∷ s) zero j b h g l f =
    let z : 8 * 0 + j ≡ 8 - 1 - (7 - j) = omega arith in
    rw z (ap (λ (r : List ℕ). r ++ bits_of s) (flip 8 (7 - j) x b (omega arith) l f) ∙ sym (set-append_left (low_bits 8 x) (bits_of s) (8 - 1 - (7 - j)) b (omega arith)))
flips (x ∷ s) (suc i) j b h g l f =
    let z : 8 * suc i + j ≡ suc (suc (suc (suc (suc (suc (suc (suc (8 * i + j)))))))) = omega arith in
    rw (z, flips s i j b (le_of_suc-le-suc h) g l f)

-- what the store of `write_bit` makes of the bits
pub bit_flipped : (s : List ℕ) (at b : ℕ) → at < 8 * length s → b < 2 → (get_or (bits_of s) at 0 ≡ b → ⊥)
    → bits_of (set s (at / 8) (bit_xor (get_or s (at / 8) 0) ((1 * 2 ^ (7 - at % 8)) % 256))) ≡ set (bits_of s) at b
bit_flipped s at b h l f =
    let z : 8 * (at / 8) + at % 8 ≡ at = omega arith in
    let e : (1 * 2 ^ (7 - at % 8)) % 256 ≡ 2 ^ (7 - at % 8) = shl_exact {a = 1} 1 (7 - at % 8) 8 (omega arith) (omega arith) ∙ one-mul (2 ^ (7 - at % 8)) in
    rw e (flips s (at / 8) (at % 8) b (omega arith) (omega arith) l (rw bit_at at f) ∙ ap (λ (i : ℕ). set (bits_of s) i b) z)

-- a bit that is there already
pub bit_there : (s : List ℕ) (at b : ℕ) → get_or (bits_of s) at 0 ≡ b → bits_of s ≡ set (bits_of s) at b
bit_there s at b e = rw (← e) (sym (set-get_or (bits_of s) at 0))

-- a turn of `write_bits`
pub write_more : (B : List ℕ) (at n i v : ℕ) → i < n
    → sets B (at + i) (low_bits (n - i) v) ≡ sets (set B (at + i) (v / 2 ^ (n - 1 - i) % 2)) (at + (i + 1)) (low_bits (n - (i + 1)) v)
unfolding low_bits
write_more B at n i v h =
    let m : n - i ≡ suc (n - (i + 1)) = omega arith in
    let p : at + (i + 1) ≡ suc (at + i) = omega arith in
    let q : n - 1 - i ≡ n - (i + 1) = omega arith in
    rw (m, p, q)

pub write_all : (B : List ℕ) (j n i v : ℕ) → n ≤ i → sets B j (low_bits (n - i) v) ≡ B
unfolding low_bits
write_all B j n i v h = let z : n - i ≡ 0 = omega arith in rw z
