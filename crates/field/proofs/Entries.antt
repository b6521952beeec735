-- What stands in the table of a field: logarithms and powers, and so products and quotients. Assumes nothing.
use Rattle.general.proofs.Names.{◌≡◌, refl, sym, ap, ◌∙◌, List, ◌++◌, ℕ, zero, suc, ◌+◌, ◌-◌, ◌*◌, ◌%◌, ◌^◌, ◌≤◌, ◌<◌, arith, ℕ_discrete}
use Rattle.general.proofs.Names.{dec_lt, T, bit_xor, xor_block, xor_zero_l, xor_self, length, get_or, replicate, get_or-replicate}
use Rattle.general.proofs.Names.{get_or-append, get_or-append-add}
use Rattle.field.specs.Field.{raised, times_alpha, power, powers, log, times, mul, order_test}
use Rattle.field.specs.Table.{log_entry, table_of, poly_of, Field}
use Rattle.field.proofs.Field.{Primitive, primitive, powers_length, powers_at, power_lt, power_log, mul_power, mul_comm, mul_assoc, mul_inverse}
use Rattle.field.proofs.Field.{mul_one, times_zero}
use Rattle.general.specs.Each.{table}
use Rattle.general.proofs.Lists.{length_table, get_or_table}

pub mul_left_zero : (poly b : ℕ) → mul poly 0 b ≡ 0
unfolding mul times
mul_left_zero poly b = refl

pub mul_right_zero : (poly a : ℕ) → mul poly a 0 ≡ 0
unfolding mul
mul_right_zero poly a = times_zero poly (a % 256)

-- what stands behind the logarithms
behind : (poly n : ℕ) → get_or (table_of poly) (256 + n) 0 ≡ get_or (powers poly 510 1 ++ replicate 514 0) n 0
unfolding table_of
behind poly n =
    (let e : 256 + n ≡ length (table 256 (log_entry poly)) + n = omega (arith, length_table 256 (log_entry poly)) in
    ap (λ (k : ℕ). get_or (table 256 (log_entry poly) ++ (powers poly 510 1 ++ replicate 514 0)) k 0) e)
    ∙ get_or-append-add (table 256 (log_entry poly)) (powers poly 510 1 ++ replicate 514 0) n 0

table_power : (poly n : ℕ) → n < 510 → get_or (table_of poly) (256 + n) 0 ≡ power poly n
table_power poly n h =
    behind poly n ∙ get_or-append (powers poly 510 1) (replicate 514 0) 0 n (omega (arith, powers_length poly 510 1)) ∙ powers_at poly 510 1 n h

table_zero : (poly n : ℕ) → 510 ≤ n → n < 1024 → get_or (table_of poly) (256 + n) 0 ≡ 0
table_zero poly n l h =
    behind poly n
    ∙ (let e : n ≡ length (powers poly 510 1) + (n - 510) = omega (arith, powers_length poly 510 1) in
    ap (λ (k : ℕ). get_or (powers poly 510 1 ++ replicate 514 0) k 0) e)
    ∙ get_or-append-add (powers poly 510 1) (replicate 514 0) (n - 510) 0
    ∙ get_or-replicate 514 (n - 510) 0 0 (omega arith)

module _ (t : List ℕ) (F : Field t) where
  abbrev poly : ℕ
  poly = poly_of t

  pub the_field : Primitive (poly_of t)
  the_field = primitive (poly_of t) F.test

  log_at : (a : ℕ) → a < 256 → get_or t a 0 ≡ log_entry poly a
  unfolding table_of
  log_at a h =
      ap (λ (x : List ℕ). get_or x a 0) F.is
      ∙ get_or-append (table 256 (log_entry poly)) ((powers poly 510 1 ++ replicate 514 0)) 0 a (omega (arith, length_table 256 (log_entry poly)))
      ∙ get_or_table 256 (log_entry poly) a h

  pub log_zero : get_or t 0 0 ≡ 510
  unfolding log_entry
  log_zero = log_at 0 (omega arith)

  pub log_pos : (a : ℕ) → 0 < a → a < 256 → (get_or t a 0 ≡ log poly a) × (get_or t a 0 < 255)
  unfolding log_entry
  log_pos zero p h = absurd (omega arith)
  log_pos (suc a) p h = let e = log_at (suc a) h in (e, omega (arith, e, the_field.onto (suc a) p h))

  pub log_le : (a : ℕ) → a < 256 → get_or t a 0 ≤ 510
  log_le a h = elim (ℕ_discrete a 0) [
    | yes e ↦ omega (arith, ap (λ (x : ℕ). get_or t x 0) e, log_zero)
    | no d ↦ omega (arith, (log_pos a (omega arith) h).1)
  ]

  pub power_at : (n : ℕ) → n < 510 → get_or t (256 + n) 0 ≡ power poly n
  power_at n h = ap (λ (x : List ℕ). get_or x (256 + n) 0) F.is ∙ table_power poly n h

  pub zero_at : (n : ℕ) → 510 ≤ n → n < 1024 → get_or t (256 + n) 0 ≡ 0
  zero_at n l h = ap (λ (x : List ℕ). get_or x (256 + n) 0) F.is ∙ table_zero poly n l h

  pub entry_lt : (n : ℕ) → n < 1024 → get_or t (256 + n) 0 < 256
  entry_lt n h = elim (dec_lt n 510) [
    | yes l ↦ omega (arith, power_at n l, power_lt poly the_field n)
    | no l ↦ omega (arith, zero_at n (omega arith) h)
  ]

  -- a times α^n
  pub scaled_at : (a n : ℕ) → a < 256 → n ≤ 255 → get_or t (256 + (get_or t a 0 + n)) 0 ≡ mul poly a (power poly n)
  scaled_at a n h l = elim (ℕ_discrete a 0) [
    | yes e ↦ rw (e, log_zero, zero_at (510 + n) (omega arith) (omega arith)) (sym (mul_left_zero poly (power poly n)))
    | no d ↦ (let p = log_pos a (omega arith) h in
        power_at (get_or t a 0 + n) (omega arith) ∙ rw (p.0, ← (mul_power poly the_field (log poly a) n), power_log poly the_field a (omega arith) h))
  ]

  pub product_at : (a b : ℕ) → a < 256 → b < 256 → get_or t (256 + (get_or t a 0 + get_or t b 0)) 0 ≡ mul poly a b
  product_at a b ha hb = elim (ℕ_discrete b 0) [
    | yes e ↦ rw (e, log_zero, zero_at (get_or t a 0 + 510) (omega arith) (omega (arith, log_le a ha))) (sym (mul_right_zero poly a))
    | no d ↦ (let p = log_pos b (omega arith) hb in
        scaled_at a (get_or t b 0) ha (omega arith) ∙ rw (p.0, power_log poly the_field b (omega arith) hb))
  ]

  -- a by b
  pub quotient_at : (a b : ℕ) → a < 256 → 0 < b → b < 256 → mul poly (get_or t (256 + (get_or t a 0 + (255 - get_or t b 0))) 0) b ≡ a
  quotient_at a b ha pb hb =
      let p = log_pos b pb hb in
      let z : a % 256 ≡ a = omega arith in
      rw (
        scaled_at a (255 - get_or t b 0) ha (omega arith),
        p.0,
        mul_assoc poly the_field a (power poly (255 - log poly b)) b,
        mul_comm poly the_field (power poly (255 - log poly b)) b,
        mul_inverse poly the_field b pb hb,
      ) (mul_one poly the_field a ∙ z)

-- α^8 is the polynomial without its highest term
alpha_eight : (poly : ℕ) → 256 ≤ poly → poly < 512 → power poly 8 ≡ poly - 256
unfolding raised times_alpha
alpha_eight poly l h =
    (let e : poly ≡ 1 * 2 ^ 8 + (poly - 256) = omega arith in ap (bit_xor 256) e)
    ∙ xor_block 8 1 1 0 (poly - 256) (omega arith) (omega arith) ∙ omega (arith, xor_zero_l (poly - 256), xor_self 1)

-- so the table of a polynomial is the table of a field, and says which
pub poly_of_table : (poly : ℕ) → T (order_test poly) → poly_of (table_of poly) ≡ poly
poly_of_table poly test =
    let P = primitive poly test in
    omega (arith, table_power poly 8 (omega arith), alpha_eight poly P.low P.high, P.low)

pub field_of : (poly : ℕ) → T (order_test poly) → Field (table_of poly)
field_of poly test =
    let e = poly_of_table poly test in
    record { test = rw e test; is = rw e }
