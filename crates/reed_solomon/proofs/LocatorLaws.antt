-- The polynomial with given places as its roots makes the syndromes of each word that is zero elsewhere. Assumes nothing.
use Rattle.general.proofs.Names.{◌≡◌, refl, ap, ap₂, ◌∙◌, ite, if_pos, if_neg, List, [], ◌∷◌, ℕ, zero, suc, ◌-◌, ◌%◌, ◌≤◌, ◌<◌, arith, ℕ_discrete, length}
use Rattle.general.proofs.Names.{xor_self}
use Rattle.field.specs.Field.{mul}
use Rattle.field.proofs.Field.{Primitive, mul_lt}
use Rattle.field.proofs.Entries.{mul_left_zero, mul_right_zero}
use Rattle.reed_solomon.specs.Sum.{◌⊕◌, horner, locator, syndrome}
use Rattle.reed_solomon.specs.Register.{discrepancy, Tail}
use Rattle.reed_solomon.proofs.Sum.{Null, mul_left}
use Rattle.reed_solomon.proofs.Peel.{Out, null_mul, syndrome_zero}
use Rattle.reed_solomon.proofs.Horner.{rooted, rooted_law, discrepancy_value}

-- the product of x + X k over the places k
unfoldable pub product : ℕ → ℕ → List ℕ → ℕ → ℕ
product poly n [] i = ite (ℕ_discrete i 0) 1 0
product poly n (k ∷ ks) i = rooted poly (locator poly n k) (product poly n ks) i

pub product_first : (poly n : ℕ) (ks : List ℕ) → product poly n ks 0 ≡ 1
unfolding product rooted
product_first poly n [] = if_pos (ℕ_discrete 0 0) refl 1 0
product_first poly n (k ∷ ks) = product_first poly n ks

product_tail : (poly n : ℕ) (ks : List ℕ) → Tail (product poly n ks) (length ks)
unfolding product rooted Tail
product_tail poly n [] i h = if_neg (ℕ_discrete i 0) (omega arith) 1 0
product_tail poly n (k ∷ ks) zero h = absurd (omega arith)
product_tail poly n (k ∷ ks) (suc i) h =
    ap₂ (λ (x y : ℕ). x ⊕ mul poly (locator poly n k) y) (product_tail poly n ks (suc i) (omega arith)) (product_tail poly n ks i (omega arith))
    ∙ mul_right_zero poly (locator poly n k)

module _ (poly : ℕ) (P : Primitive poly) (first n : ℕ) where
  abbrev ◌⊗◌ : ℕ → ℕ → ℕ
  ◌⊗◌ = mul poly

  infixl 70 ◌⊗◌
  abbrev X : ℕ → ℕ
  X = locator poly n

  -- at each place either the word is zero or the product is
  covered : (ks : List ℕ) (i a : ℕ) → (Out i ks → Null a) → Null (a ⊗ horner poly (product poly n ks) (X i) (suc (length ks)))
  unfolding product
  covered [] i a z = ap (λ (x : ℕ). x % 256) (null_mul poly P a (horner poly (product poly n []) (X i) 1) (z tt))
  covered (k ∷ ks) i a z =
      let H = horner poly (product poly n ks) (X i) (suc (length ks)) in
      let e : horner poly (product poly n (k ∷ ks)) (X i) (suc (suc (length ks))) ≡ (X i ⊕ X k) ⊗ H = whole in
      elim (ℕ_discrete i k) [
        | yes s ↦ ap (λ (x : ℕ). x % 256)
            (ap (mul poly a) (e ∙ ap (λ (j : ℕ). (X j ⊕ X k) ⊗ H) s ∙ ap (λ (x : ℕ). x ⊗ H) (xor_self (X k)) ∙ mul_left_zero poly H)
            ∙ mul_right_zero poly a)
        | no d ↦ ap (λ (x : ℕ). x % 256)
            (ap (mul poly a) e ∙ mul_left poly P a (X i ⊕ X k) H
            ∙ ap (mul poly (X i ⊕ X k)) (zero_of (a ⊗ H) (covered ks i a (λ o. z (d, o))) (product_small a H))
            ∙ mul_right_zero poly (X i ⊕ X k))
      ]
    where
      whole : horner poly (product poly n (k ∷ ks)) (X i) (suc (suc (length ks))) ≡ (X i ⊕ X k) ⊗ horner poly (product poly n ks) (X i) (suc (length ks))
      whole = rooted_law poly P (product poly n ks) (X k) (X i) (length ks) (product_tail poly n ks)

      zero_of : (v : ℕ) → Null v → v < 256 → v ≡ 0
      zero_of v z h = omega arith

      product_small : (u v : ℕ) → u ⊗ v < 256
      product_small u v = mul_lt poly P u v

  pub product_makes : (ks : List ℕ) (c : ℕ → ℕ) → ((i : ℕ) → i < n → Out i ks → Null (c i)) → (x : ℕ) → length ks ≤ x
      → discrepancy poly (syndrome poly first n c) (product poly n ks) (length ks) x ≡ 0
  product_makes ks c z x h =
      discrepancy_value poly P first n c (product poly n ks) (length ks) x h
      ∙ syndrome_zero poly P first n (λ i. c i ⊗ horner poly (product poly n ks) (X i) (suc (length ks)))
      (λ i l. covered ks i (c i) (z i l)) (x - length ks)
