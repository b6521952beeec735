-- The error at each zero of a locator is the quotient that the code computes. The locator may come from anywhere, and may be zero where
-- there is no error. Assumes nothing.
use Rattle.general.proofs.Names.{◌≡◌, refl, sym, ap, ◌∙◌, subst, ◌≢◌, List, ℕ, suc, ◌+◌, ◌-◌, ◌*◌, ◌%◌, ◌≤◌, ◌<◌, arith, ℕ_discrete, xor_self}
use Rattle.field.specs.Field.{power, mul}
use Rattle.field.proofs.Field.{Primitive, mul_comm, mul_assoc, sum_lt}
use Rattle.field.proofs.Field.{mul_sum as sum-mul}
use Rattle.reed_solomon.specs.Sum.{◌⊕◌, seq, horner, degree, weight, syndrome}
use Rattle.reed_solomon.proofs.Sum.{Null, sum_ext, sum_one, add_zero_eq}
use Rattle.reed_solomon.proofs.Peel.{null_mul, null_div, power_alive}
use Rattle.reed_solomon.proofs.Horner.{quotient, horner_one, quotient_root, few_zeros, convolution}
use Rattle.reed_solomon.specs.Places.{locator_at}
use Rattle.reed_solomon.specs.Inner.{Locates, divided_at, numerator, denominator, Magnitude}

pub cancel_mul : (poly : ℕ) → Primitive poly → (a b v : ℕ) → a < 256 → b < 256 → ¬ Null v → mul poly a v ≡ mul poly b v → a ≡ b
cancel_mul poly P a b v ha hb d e =
    add_zero_eq a b (omega (
      arith,
      sum_lt a b ha hb,
      null_div poly P (a ⊕ b) v (ap (λ (x : ℕ). x % 256) (sum-mul poly P a b v ∙ ap (λ (x : ℕ). x ⊕ mul poly b v) e ∙ xor_self (mul poly b v))) d,
    ))

module _ (poly : ℕ) (P : Primitive poly) (first parity n : ℕ) (small : n ≤ 255) (err : ℕ → ℕ) (s h : List ℕ) (l : ℕ)
    (A : Locates poly first parity n err s h l) (k : ℕ) (hk : k < n) (zk : locator_at poly h l (degree n k) ≡ 0) where
  abbrev ◌⊗◌ : ℕ → ℕ → ℕ
  ◌⊗◌ = mul poly

  infixl 70 ◌⊗◌
  -- the exponent of the zero, the locator divided by x + α to it, and the quotient's value at α^d
  abbrev D : ℕ
  D = degree n k

  abbrev Q : ℕ → ℕ
  Q = quotient poly (seq h) (power poly D)

  abbrev H : ℕ → ℕ
  H d = horner poly Q (power poly d) l

  below : (i : ℕ) → i < n → degree n i < n
  unfolding degree
  below i o = omega arith

  other_null : (d : ℕ) → d < n → d ≢ D → locator_at poly h l d ≡ 0 → Null (H d)
  other_null d o e z =
      quotient_root poly P (seq h) d D l (omega arith) (omega (arith, below k hk)) e (ap (λ (x : ℕ). x % 256) z) (ap (λ (x : ℕ). x % 256) zk)

  others_gone : (i : ℕ) → i < n → i ≢ k → Null (err i ⊗ H (degree n i))
  unfolding degree
  others_gone i o d = elim (ℕ_discrete (err i) 0) [
    | yes e ↦ ap (λ (x : ℕ). x % 256) (null_mul poly P (err i) (H (degree n i)) (ap (λ (x : ℕ). x % 256) e))
    | no e ↦ ap (λ (x : ℕ). x % 256) (mul_comm poly P (err i) (H (degree n i))
        ∙ null_mul poly P (H (degree n i)) (err i) (other_null (degree n i) (omega arith) (λ q. d (omega arith)) (A.root i o e)))
  ]

  den_is : denominator poly h l D ≡ H D
  unfolding denominator
  den_is = refl

  numerator_is : numerator poly s h l D ≡ err k ⊗ H D ⊗ power poly (D * first)
  unfolding numerator syndrome degree
  numerator_is =
      sum_ext (λ j. divided_at poly h D j ⊗ seq s (degree l j)) (λ j. Q j ⊗ syndrome poly first n err (0 + degree l j)) l
      (λ j o. ap (mul poly (Q j)) (A.of (degree l j) (in_range j o)
      ∙ (let e : degree l j ≡ 0 + degree l j = omega arith in ap (syndrome poly first n err) e)))
      ∙ convolution poly P first n err Q 0 l
      ∙ sum_one (λ i. err i ⊗ H (degree n i) ⊗ weight poly first n i 0) n k hk
      (λ i o d. null_mul poly P (err i ⊗ H (degree n i)) (weight poly first n i 0) (others_gone i o d))
      ∙ (let e : D * (first + 0) ≡ D * first = omega arith in ap (λ (x : ℕ). err k ⊗ H D ⊗ power poly x) e)
    where
      in_range : (j : ℕ) → j < l → degree l j < parity
      in_range j o = omega (arith, A.within)

  -- the denominator is not zero: the quotient would have as many roots as coefficients
  alive : ¬ Null (H D)
  alive z = elim (ℕ_discrete l 0) [
    | yes e ↦
        let u : seq h 0 ≡ 0 = sym (horner_one poly P (seq h) (power poly D)) ∙ ap (λ (m : ℕ). horner poly (seq h) (power poly D) (suc m)) (sym e) ∙ zk in
        omega (arith, A.unit)
    | no e ↦
        let m : l ≡ suc (l - 1) = omega arith in
        omega (
          arith,
          A.many,
          few_zeros poly P n (l - 1) Q (locator_at poly h l) small (λ y. omega (arith, A.unit, subst Null (horner_one poly P (seq h) (power poly D)) y))
              (λ d o q. subst (λ (x : ℕ). Null (horner poly Q (power poly d) x)) m
              (elim (ℕ_discrete d D) [ yes a ↦ subst (λ (x : ℕ). Null (H x)) (sym a) z | no a ↦ other_null d o a q ])),
        )
  ]

  pub error_is : (y : ℕ) → Magnitude poly first s h l D y → y ≡ err k
  error_is y M =
      let U = power poly (D * first) in
      let positive : H D ≢ 0 = λ z. alive (ap (λ (x : ℕ). x % 256) z) in
      cancel_mul poly P y (err k) (U ⊗ H D) M.byte (A.err_lt k) (λ z. power_alive poly P (D * first) (null_div poly P U (H D) z alive))
      (sym (mul_assoc poly P y U (H D)) ∙ ap (mul poly (y ⊗ U)) (sym den_is) ∙ M.is (omega (arith, den_is))
      ∙ numerator_is ∙ mul_assoc poly P (err k) (H D) U ∙ ap (mul poly (err k)) (mul_comm poly P (H D) U))
