-- Bits written behind others: the bits before, then those of a number, as the bits of four bytes.
use Rattle.general.proofs.Names.{◌≡◌, ap, ◌∙◌, sym, List, [], ◌∷◌, ◌++◌, append-nil, flat_map, ℕ, zero, suc, ◌+◌, ◌-◌, ◌*◌, ◌/◌, ◌%◌, ◌^◌, ◌<◌, ◌≤◌, mod-lt}
use Rattle.general.proofs.Names.{suc-mul, mul-le-mul_right, mul_assoc, add-mul, arith, length, get_or, take, drop, length-append, sets, sets-eq, take_at}
use Rattle.general.proofs.Names.{take-append-le, length-take-le}
use lib.Pow.{shr-shr, shl-shr, shl_exact, shl_lt, shr_lt, high, split, pow_pos, pow-add}
use Rattle.bits.specs.Bits.{low_bits, bits_of, word_bits}
use Rattle.bits.specs.Four.{four_of}
use Rattle.bits.proofs.Words.{length_low}
use Rattle.bits.proofs.Bytes.{low_add}
use Rattle.bits.proofs.Window.{one_shifted}

-- a number's low bits in two parts
pub low_split : (m k x : ℕ) → low_bits (m + k) x ≡ low_bits m (x / 2 ^ k) ++ low_bits k x
unfolding low_bits
low_split zero k x = let e : zero + k ≡ k = omega arith in rw e
low_split (suc m) k x =
    let e : suc m + k ≡ suc (m + k) = omega arith in
    let c : m + k ≡ k + m = omega arith in
    let d : x / 2 ^ (m + k) ≡ x / 2 ^ k / 2 ^ m = rw c (sym (shr-shr x k m)) in
    rw (e, d, low_split m k x)

low_mod : (n x : ℕ) → low_bits n (x % 2 ^ n) ≡ low_bits n x
low_mod n x = sym (low_add n n (x / 2 ^ n) (x % 2 ^ n) (omega arith)) ∙ ap (low_bits n) (split x n)

pub four_bits : (x : ℕ) → bits_of (four_of x) ≡ low_bits 32 x
unfolding word_bits flat_map four_of
four_bits x =
    sym (low_split 8 24 x
    ∙ rw (low_split 8 16 x, low_split 8 8 x, ← low_mod 8 (x / 2 ^ 16), ← low_mod 8 (x / 2 ^ 8), ← low_mod 8 x, append-nil))

-- the top bits of a byte, then the n low bits of v, at the top of 32 bits
pub joined : ℕ → ℕ → ℕ → ℕ → ℕ
joined old r n v = (old / 2 ^ (8 - r) * 2 ^ n + v % 2 ^ n) * 2 ^ (32 - r - n)

joined_bits : (old r n v : ℕ) → r < 8 → n ≤ 24 → take (r + n) (low_bits 32 (joined old r n v)) ≡ take r (low_bits 8 old) ++ low_bits n v
unfolding joined
joined_bits old r n v h l =
    let p : ℕ = 32 - r - n in
    let y : ℕ = old / 2 ^ (8 - r) * 2 ^ n + v % 2 ^ n in
    let e : 32 ≡ r + n + p = omega arith in
    let o : 8 ≡ r + (8 - r) = omega arith in
    let a : low_bits 32 (y * 2 ^ p) ≡ low_bits (r + n) y ++ low_bits p (y * 2 ^ p) = ap (λ (k : ℕ). low_bits k (y * 2 ^ p)) e
    ∙ low_split (r + n) p (y * 2 ^ p) ∙ rw (shl-shr y p) in
    let b : low_bits n y ≡ low_bits n v = low_add n n (old / 2 ^ (8 - r)) (v % 2 ^ n) (omega arith) ∙ low_mod n v in
    let t : take r (low_bits 8 old) ≡ low_bits r (old / 2 ^ (8 - r)) = ap (λ (k : ℕ). take r (low_bits k old)) o
    ∙ rw (low_split r (8 - r) old) (take_at (low_bits r (old / 2 ^ (8 - r))) (low_bits (8 - r) old) r (length_low r (old / 2 ^ (8 - r)))) in
    ap (take (r + n)) a
    ∙ take_at (low_bits (r + n) y) (low_bits p (y * 2 ^ p)) (r + n) (length_low (r + n) y)
    ∙ low_split r n y
    ∙ rw (high (old / 2 ^ (8 - r)) n (mod-lt v (pow_pos n)), b, t)

-- four bytes of a list replaced by those of `joined`
front : (old r n v : ℕ) (rest : List ℕ) → r < 8 → n ≤ 24 → take (r + n) (bits_of (four_of (joined old r n v)) ++ rest) ≡ take r (low_bits 8 old) ++ low_bits n v
front old r n v rest h l =
    rw (four_bits (joined old r n v))
    (take-append-le (r + n) (low_bits 32 (joined old r n v)) rest (rw length_low (omega arith)) ∙ joined_bits old r n v h l)

inside : (s : List ℕ) (f r n v : ℕ) → r < 8 → n ≤ 24 → f + 4 ≤ length s
    → take (8 * f + (r + n)) (bits_of (sets s f (four_of (joined (get_or s f 0) r n v)))) ≡ take (8 * f + r) (bits_of s) ++ low_bits n v
unfolding word_bits flat_map four_of low_bits
inside [] f r n v h l k = absurd (omega arith)
inside (a ∷ []) zero r n v h l k = absurd (omega arith)
inside (a ∷ b ∷ []) zero r n v h l k = absurd (omega arith)
inside (a ∷ b ∷ c ∷ []) zero r n v h l k = absurd (omega arith)
inside (a ∷ b ∷ c ∷ d ∷ s) zero r n v h l k =
    let e : 8 * 0 + (r + n) ≡ r + n = omega arith in
    let z : 8 * 0 + r ≡ r = omega arith in
    rw (e, z) (front a r n v (bits_of s) h l ∙ ap (λ (q : List ℕ). q ++ low_bits n v)
    (sym (take-append-le r (low_bits 8 a) (bits_of (b ∷ c ∷ d ∷ s)) (rw length_low (omega arith)))))
inside (a ∷ s) (suc f) r n v h l k =
    let e : 8 * suc f + (r + n) ≡ suc (suc (suc (suc (suc (suc (suc (suc (8 * f + (r + n))))))))) = omega arith in
    let z : 8 * suc f + r ≡ suc (suc (suc (suc (suc (suc (suc (suc (8 * f + r)))))))) = omega arith in
    rw (e, z, inside s f r n v h l (omega arith))

-- what `write_bits` computes
abbrev pub Joins : ℕ → ℕ → ℕ → ℕ → Type 0
Joins old r n v =
    let x : ℕ = (old - old % ((1 * 2 ^ (8 - r)) % 2 ^ 64)) * 16777216 in
    let y : ℕ = (v % ((1 * 2 ^ n) % 2 ^ 64) * 2 ^ (32 - r - n)) % 2 ^ 64 in
    (x + y ≡ joined old r n v) × (joined old r n v < 4294967296)

pub joined_is : (old r n v : ℕ) → old < 256 → r < 8 → n ≤ 24 → Joins old r n v
unfolding joined
joined_is old r n v h l k =
    let p : ℕ = 32 - r - n in
    let a : ℕ = old / 2 ^ (8 - r) in
    let y : ℕ = a * 2 ^ n + v % 2 ^ n in
    let o : r + (8 - r) ≡ 8 = omega arith in
    let e : r + n + p ≡ 32 = omega arith in
    let f : 8 - r + 24 ≡ n + p = omega arith in
    let s : a < 2 ^ r = shr_lt {n = old} r (8 - r) (rw o h) in
    let t : y < 2 ^ (r + n) = under a r (v % 2 ^ n) n s (mod-lt v (pow_pos n)) in
    let m : old - old % 2 ^ (8 - r) ≡ a * 2 ^ (8 - r) = omega (arith, split old (8 - r)) in
    let x : a * 2 ^ (8 - r) * 2 ^ 24 ≡ a * 2 ^ n * 2 ^ p = mul_assoc a (2 ^ (8 - r)) (2 ^ 24)
    ∙ rw (← pow-add 2 (8 - r) 24, f, pow-add 2 n p) (sym (mul_assoc a (2 ^ n) (2 ^ p))) in (
      rw (one_shifted n k, one_shifted (8 - r) (omega arith), m, x, shl_exact n p 64 (mod-lt v (pow_pos n)) (omega arith))
          (sym (add-mul (a * 2 ^ n) (v % 2 ^ n) (2 ^ p))),
      rw e at (shl_lt (r + n) p t),
    )
  where
    under : (a r m n : ℕ) → a < 2 ^ r → m < 2 ^ n → a * 2 ^ n + m < 2 ^ (r + n)
    under a r m n i j =
        let x : suc a * 2 ^ n ≤ 2 ^ r * 2 ^ n = mul-le-mul_right (2 ^ n) i in
        rw (pow-add 2 r n) (omega (arith, suc-mul a (2 ^ n)))

pub appended : (s : List ℕ) (at n v : ℕ) → n ≤ 24 → at / 8 + 4 ≤ length s
    → take (at + n) (bits_of (sets s (at / 8) (four_of (joined (get_or s (at / 8) 0) (at % 8) n v)))) ≡ take at (bits_of s) ++ low_bits n v
appended s at n v l k =
    let e : at + n ≡ 8 * (at / 8) + (at % 8 + n) = omega arith in
    let z : 8 * (at / 8) + at % 8 ≡ at = omega arith in
    rw e (inside s (at / 8) (at % 8) n v (omega arith) l k ∙ rw z)

-- bits that were set one by one
pub behind_set : (b : List ℕ) (at : ℕ) (xs : List ℕ) → at + length xs ≤ length b → take (at + length xs) (sets b at xs) ≡ take at b ++ xs
behind_set b at xs h =
    rw (sets-eq xs b at h) (take_at (take at b ++ xs) (drop (at + length xs) b) (at + length xs) (length-append (take at b) xs ∙ rw (length-take-le at b (omega arith))))
