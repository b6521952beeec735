-- What a customer may quote of the field. Each holds for any polynomial that passes the order test (SPECIFICATION 3.2). Elements are bytes;
-- their sum is the xor, which is its own inverse. Assumes nothing.
use Rattle.general.proofs.Names.{◌≡◌, refl, sym, ap, ap₂, ◌∙◌, ◌≢◌, ℕ, zero, suc, ◌+◌, ◌-◌, ◌%◌, ◌<◌, arith, T, bit_xor}
use Rattle.field.specs.Field.{times_alpha, raised, power, log, times, mul, order_test}
use Rattle.field.proofs.Field as field
use Rattle.field.proofs.Field.{Primitive, primitive}

module _ (poly : ℕ) (test : T (order_test poly)) where
  abbrev P : Primitive poly
  P = primitive poly test

  two : power poly 1 ≡ 2
  unfolding raised times_alpha
  two = refl

  zero_times : mul poly 0 2 ≡ 0
  unfolding mul times
  zero_times = refl

  -- The product of two bytes is a byte; it commutes, associates and distributes over the sum, and 1 is neutral.
  pub closed : (a b : ℕ) → mul poly a b < 256
  closed = field.mul_lt poly P

  pub commutes : (a b : ℕ) → mul poly a b ≡ mul poly b a
  commutes = field.mul_comm poly P

  pub associates : (a b c : ℕ) → mul poly (mul poly a b) c ≡ mul poly a (mul poly b c)
  associates = field.mul_assoc poly P

  pub distributes : (a b c : ℕ) → mul poly (bit_xor a b) c ≡ bit_xor (mul poly a c) (mul poly b c)
  distributes = field.mul_sum poly P

  pub one : (a : ℕ) → a < 256 → mul poly a 1 ≡ a
  one a h = field.mul_one poly P a ∙ omega arith

  -- Each byte but 0 has an inverse, and a product is 0 only where one of its factors is.
  pub inverse : (a : ℕ) → 0 < a → a < 256 → mul poly a (power poly (255 - log poly a)) ≡ 1
  inverse = field.mul_inverse poly P

  pub no_divisors : (a b : ℕ) → mul poly a b ≡ 0 → a % 256 ≢ 0 → b % 256 ≡ 0
  no_divisors = field.mul_none poly P

  -- α is 2, and a product with it is the step by which the definition makes its powers: one bit up, and the polynomial added where that leaves
  -- the byte. With the laws above this determines every product.
  pub alpha : (a : ℕ) → a < 256 → mul poly a 2 ≡ times_alpha poly a
  unfolding raised
  alpha zero h = zero_times ∙ sym (field.times_alpha_zero poly)
  alpha (suc a) h =
      let e = field.power_log poly P (suc a) (omega arith) h in
      ap₂ (mul poly) (sym e) (sym two) ∙ field.mul_power poly P (log poly (suc a)) 1
      ∙ ap (λ (n : ℕ). power poly n) (let q : log poly (suc a) + 1 ≡ suc (log poly (suc a)) = omega arith in q) ∙ ap (times_alpha poly) e
