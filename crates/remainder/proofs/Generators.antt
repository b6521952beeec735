-- Each generator of the table is zero at its roots: one computed test.
use Rattle.general.proofs.Names.{◌≡◌, refl, ap, ◌∙◌, ℕ, zero, suc, ◌+◌, ◌-◌, ◌*◌, ◌/◌, ◌%◌, ◌≤◌, ◌<◌, arith, T, eqb, eqb→eq, bit_xor}
use Rattle.field.specs.Field.{below, times_alpha, raised, mul, power}
use Rattle.field.proofs.Field.{Primitive, primitive, below_at, sum_lt, raised_lt}
use Rattle.field.proofs.Entries.{mul_left_zero}
use Rattle.field.proofs.Instances.{primitive_163}
use Rattle.remainder.specs.declared.Register.{Register}
use Rattle.remainder.specs.Words.{digits, behind, Zero, row_at}
use Rattle.remainder.specs.Generators.{generators}
use Rattle.remainder.proofs.Alpha.{mul_raised}
use Rattle.remainder.proofs.Digits.{digits_none, digits_next}

-- Horner's rule at α^m, with steps by α in place of products, which take too long to compute
quick : ℕ → ℕ → ℕ → ℕ → ℕ
quick m acc zero w = acc
quick m acc (suc n) w = bit_xor (raised 0x163 m (quick m acc n (w / 256))) (w % 256)

quickly : ℕ → Register → ℕ
quickly m r = quick m (quick m (quick m (quick m 1 8 r.a) 8 r.b) 8 r.c) 8 r.d

all_zero : T (below 16 (λ k. below (2 * k + 2) (λ j. eqb (quickly (suc j) (row_at generators k)) 0)))
unfolding below quickly quick raised times_alpha generators
all_zero = tt

P : Primitive 0x163
P = primitive 0x163 primitive_163

quick_lt : (m acc n w : ℕ) → acc < 256 → quick m acc n w < 256
unfolding quick
quick_lt m acc zero w h = h
quick_lt m acc (suc n) w h = sum_lt (raised 0x163 m (quick m acc n (w / 256))) (w % 256)
    (raised_lt 0x163 P m (quick m acc n (w / 256)) (quick_lt m acc n (w / 256) h)) (omega arith)

quick_is : (m acc n w : ℕ) → acc < 256 → digits 0x163 (power 0x163 m) acc n w ≡ quick m acc n w
unfolding quick digits
quick_is m acc zero w h = refl
quick_is m acc (suc n) w h =
    ap (λ (y : ℕ). bit_xor y (w % 256)) (ap (λ (y : ℕ). mul 0x163 y (power 0x163 m)) (quick_is m acc n (w / 256) h)
    ∙ mul_raised 0x163 P (quick m acc n (w / 256)) m (quick_lt m acc n (w / 256) h))

pub generator_zero : (parity j : ℕ) → 2 ≤ parity → parity ≤ 32 → parity % 2 ≡ 0 → j < parity → Zero 0x163 (power 0x163 (1 + j)) 1 (row_at generators (parity / 2 - 1))
unfolding quickly behind
generator_zero parity j a b c h =
    let k = parity / 2 - 1 in
    let r = row_at generators k in
    let m = 1 + j in
    let x = power 0x163 m in
    let o : 1 + j ≡ suc j = omega arith in
    let q₁ = quick m 1 8 r.a in
    let q₂ = quick m q₁ 8 r.b in
    let q₃ = quick m q₂ 8 r.c in
    let l₁ : q₁ < 256 = quick_lt m 1 8 r.a (omega arith) in
    let l₂ : q₂ < 256 = quick_lt m q₁ 8 r.b l₁ in
    let l₃ : q₃ < 256 = quick_lt m q₂ 8 r.c l₂ in
    let d = digits 0x163 x in
    let one : d 0 4 1 ≡ 1 = digits_next 0x163 P x 0 1 (omega arith) (omega arith) ∙ ap (λ (y : ℕ). bit_xor (mul 0x163 y x) 1) (digits_none 0x163 P x 4)
    ∙ ap (λ (y : ℕ). bit_xor y 1) (mul_left_zero 0x163 x) in
    ap (λ (y : ℕ). d (d (d (d y 8 r.a) 8 r.b) 8 r.c) 8 r.d) one
    ∙ ap (λ (y : ℕ). d (d (d y 8 r.b) 8 r.c) 8 r.d) (quick_is m 1 8 r.a (omega arith))
    ∙ ap (λ (y : ℕ). d (d y 8 r.c) 8 r.d) (quick_is m q₁ 8 r.b l₁)
    ∙ ap (λ (y : ℕ). d y 8 r.d) (quick_is m q₂ 8 r.c l₂)
    ∙ quick_is m q₃ 8 r.d l₃
    ∙ ap (λ (n : ℕ). quickly n r) o
    ∙ eqb→eq (quickly (suc j) r) 0 (below_at (2 * k + 2) (λ j. eqb (quickly (suc j) r) 0)
    (below_at 16 (λ k. below (2 * k + 2) (λ j. eqb (quickly (suc j) (row_at generators k)) 0)) all_zero k (omega arith)) j (omega arith))
