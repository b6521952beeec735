-- Each byte of a word times α, in one go.
use Rattle.general.proofs.Names.{◌≡◌, refl, sym, ap, ap₂, ◌∙◌, ℕ, zero, suc, ◌+◌, ◌-◌, ◌*◌, ◌/◌, ◌%◌, ◌≤◌, ◌<◌, arith, lt-ltb, le-ltb, dec_lt, add-mul}
use Rattle.general.proofs.Names.{mul_assoc, mul_comm, add_comm, bit_xor, bit_and, xor_block, and_block, and_mask, and_zero_r, xor_zero_r, xor_self}
use Rattle.field.specs.Field.{times_alpha, raised, mul, power, log}
use Rattle.field.proofs.Field as Field
use Rattle.field.proofs.Field.{Primitive, raised_zero, raised_add, power_log, mul_lt, mul_sum, mul_power}
use Rattle.field.proofs.Entries.{mul_left_zero}
use Rattle.remainder.specs.declared.Register.{Register}
use Rattle.remainder.specs.Words.{digits, behind, Zero, double_of, doubled_of}

-- 7F and 01 in each of n bytes
unfoldable pub sevens : ℕ → ℕ
sevens zero = 0
sevens (suc n) = sevens n * 256 + 127

unfoldable pub ones : ℕ → ℕ
ones zero = 0
ones (suc n) = ones n * 256 + 1

carry : (u v : ℕ) → u < 256 → v < 256 → bit_xor (256 + u) (256 + v) ≡ bit_xor u v
carry u v lu lv =
    let a : 256 + u ≡ 1 * 256 + u = omega arith in
    let b : 256 + v ≡ 1 * 256 + v = omega arith in
    ap₂ bit_xor a b ∙ xor_block 8 1 1 u v lu lv ∙ ap (λ (y : ℕ). y * 256 + bit_xor u v) (xor_self 1) ∙ omega arith

-- one byte, where the polynomial is 256 and low
one_byte : (low r : ℕ) → low < 256 → r < 256 → bit_xor (r % 128 * 2) (r / 128 * low) ≡ times_alpha (256 + low) r
unfolding times_alpha
one_byte low r ll lr = elim (dec_lt r 128) [
  | yes h ↦ let a : r % 128 * 2 ≡ r * 2 = omega arith in
      let q : r / 128 ≡ 0 = omega arith in
      ap₂ bit_xor a (ap (λ (y : ℕ). y * low) q) ∙ ap (bit_xor (r * 2)) (nothing low) ∙ xor_zero_r (r * 2) ∙ sym (simp (lt-ltb (r * 2) 256 (omega arith)))
  | no h ↦ let k : 128 ≤ r = omega arith in
      let q : r / 128 ≡ 1 = omega arith in
      let b : r * 2 ≡ 256 + r % 128 * 2 = omega arith in
      ap (λ (y : ℕ). bit_xor (r % 128 * 2) (y * low)) q ∙ ap (bit_xor (r % 128 * 2)) (once low)
      ∙ sym (ap (λ (y : ℕ). bit_xor y (256 + low)) b ∙ carry (r % 128 * 2) low (omega arith) ll)
      ∙ sym (simp (le-ltb (r * 2) 256 (omega arith)))
]
  where
    nothing : (y : ℕ) → 0 * y ≡ 0
    nothing y = omega arith

    once : (y : ℕ) → 1 * y ≡ y
    once y = omega arith

pub in_one_go : (low : ℕ) → low < 256 → (n w : ℕ) → bit_xor (bit_and w (sevens n) * 2) (bit_and (w / 128) (ones n) * low) ≡ double_of (256 + low) n w
unfolding sevens ones double_of
in_one_go low ll zero w = ap₂ (λ (y z : ℕ). bit_xor (y * 2) (z * low)) (and_zero_r w) (and_zero_r (w / 128)) ∙ ap (bit_xor 0) (nothing low)
  where
    nothing : (y : ℕ) → 0 * y ≡ 0
    nothing y = omega arith
in_one_go low ll (suc n) w =
    let u = w / 256 in
    let r = w % 256 in
    let lr : r < 256 = omega arith in
    let e : w ≡ u * 256 + r = omega arith in
    let a : bit_and w (sevens n * 256 + 127) ≡ bit_and u (sevens n) * 256 + r % 128 =
    ap (λ (y : ℕ). bit_and y (sevens n * 256 + 127)) e ∙ and_block 8 u (sevens n) r 127 lr (omega arith) ∙ ap (λ (y : ℕ). bit_and u (sevens n) * 256 + y) (and_mask r 7) in
    let f : w / 128 ≡ u / 128 * 256 + w / 128 % 256 = omega arith in
    let g : w / 128 % 256 % 2 ≡ r / 128 = omega arith in
    let b : bit_and (w / 128) (ones n * 256 + 1) ≡ bit_and (u / 128) (ones n) * 256 + r / 128 =
    ap (λ (y : ℕ). bit_and y (ones n * 256 + 1)) f ∙ and_block 8 (u / 128) (ones n) (w / 128 % 256) 1 (omega arith) (omega arith)
    ∙ ap (λ (y : ℕ). bit_and (u / 128) (ones n) * 256 + y) (and_mask (w / 128 % 256) 1 ∙ g) in
    let p : (bit_and u (sevens n) * 256 + r % 128) * 2 ≡ bit_and u (sevens n) * 2 * 256 + r % 128 * 2 = omega arith in
    ap₂ (λ (y z : ℕ). bit_xor (y * 2) (z * low)) a b
    ∙ ap₂ bit_xor p (spread (bit_and (u / 128) (ones n)) (r / 128) low)
    ∙ xor_block 8 (bit_and u (sevens n) * 2) (bit_and (u / 128) (ones n) * low) (r % 128 * 2) (r / 128 * low) (omega arith) (bit_times (r / 128) low (omega arith) ll)
    ∙ ap₂ (λ (y z : ℕ). y * 256 + z) (in_one_go low ll n u) (one_byte low r ll lr)
  where
    spread : (a b c : ℕ) → (a * 256 + b) * c ≡ a * c * 256 + b * c
    spread a b c = add-mul (a * 256) b c ∙ ap (λ (y : ℕ). y + b * c) (mul_assoc a 256 c ∙ ap (◌*◌ a) (mul_comm 256 c) ∙ sym (mul_assoc a c 256))

    bit_times : (b c : ℕ) → b < 2 → c < 256 → b * c < 256
    bit_times zero c h l = omega arith
    bit_times (suc zero) c h l = omega arith
    bit_times (suc (suc b)) c h l = absurd (omega arith)

-- ---- a product with α

module _ (poly : ℕ) (P : Primitive poly) where
  pub mul_raised : (a k : ℕ) → a < 256 → mul poly a (power poly k) ≡ raised poly k a
  mul_raised zero k h = mul_left_zero poly (power poly k) ∙ sym (raised_zero poly k)
  mul_raised (suc a) k h =
      ap (λ (y : ℕ). mul poly y (power poly k)) (sym is) ∙ mul_power poly P (log poly (suc a)) k
      ∙ ap (λ (n : ℕ). power poly n) (add_comm (log poly (suc a)) k) ∙ raised_add poly k (log poly (suc a)) 1 ∙ ap (raised poly k) is
    where
      is : power poly (log poly (suc a)) ≡ suc a
      is = power_log poly P (suc a) (omega arith) h

  times_alpha_lem : (a : ℕ) → a < 256 → times_alpha poly a ≡ mul poly a (power poly 1)
  unfolding raised
  times_alpha_lem a h = sym (mul_raised a 1 h)

  digits_double : (x n e w : ℕ) → digits poly x (mul poly e (power poly 1)) n (double_of poly n w) ≡ mul poly (digits poly x e n w) (power poly 1)
  unfolding digits double_of
  digits_double x zero e w = refl
  digits_double x (suc n) e w =
      let α = power poly 1 in
      let u = double_of poly n (w / 256) in
      let r = w % 256 in
      let lr : r < 256 = omega arith in
      let d = digits poly x e n (w / 256) in
      let l : times_alpha poly r < 256 = omega (arith, times_alpha_lem r lr, mul_lt poly P r α) in
      let p : (u * 256 + times_alpha poly r) / 256 ≡ u = omega arith in
      let q : (u * 256 + times_alpha poly r) % 256 ≡ times_alpha poly r = omega arith in
      ap₂ (λ (y z : ℕ). bit_xor (mul poly (digits poly x (mul poly e α) n y) x) z) p (q ∙ times_alpha_lem r lr)
      ∙ ap (λ (y : ℕ). bit_xor (mul poly y x) (mul poly r α)) (digits_double x n e (w / 256))
      ∙ ap (λ (y : ℕ). bit_xor y (mul poly r α)) (Field.mul_assoc poly P d α x ∙ ap (mul poly d) (Field.mul_comm poly P α x) ∙ sym (Field.mul_assoc poly P d x α))
      ∙ sym (mul_sum poly P (mul poly d x) r α)

  behind_double : (x e : ℕ) (r : Register) → behind poly x (mul poly e (power poly 1)) (doubled_of poly r) ≡ mul poly (behind poly x e r) (power poly 1)
  unfolding behind
  behind_double x e r =
      let d = digits poly x in
      rw (digits_double x 8 e r.a, digits_double x 8 (d e 8 r.a) r.b, digits_double x 8 (d (d e 8 r.a) 8 r.b) r.c)
      (digits_double x 8 (d (d (d e 8 r.a) 8 r.b) 8 r.c) r.d)

  pub zero_double : (x v : ℕ) (r : Register) → Zero poly x v r → Zero poly x (double_of poly 4 v) (doubled_of poly r)
  zero_double x v r z =
      ap (λ (y : ℕ). behind poly x y (doubled_of poly r)) (ap (λ (y : ℕ). digits poly x y 4 (double_of poly 4 v))
      (sym (mul_left_zero poly (power poly 1))) ∙ digits_double x 4 0 v)
      ∙ behind_double x (digits poly x 0 4 v) r ∙ ap (λ (y : ℕ). mul poly y (power poly 1)) z ∙ mul_left_zero poly (power poly 1)
