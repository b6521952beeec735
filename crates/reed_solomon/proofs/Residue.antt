-- Errors taken off the syndromes, and added to the block. Assumes nothing.
use Rattle.general.proofs.Names.{◌≡◌, sym, ap, ap₂, ◌∙◌, subst, List, ℕ, suc, ◌+◌, ◌-◌, ◌*◌, ◌/◌, ◌%◌, ◌≤◌, ◌<◌, arith, length, set, xor_zero_r}
use Rattle.field.specs.Field.{power, mul}
use Rattle.field.proofs.Xor.{xor_assoc}
use Rattle.field.proofs.Field.{Primitive, mul_assoc, mul_power, power_period}
use Rattle.field.proofs.Entries.{mul_left_zero}
use Rattle.reed_solomon.specs.Sum.{◌⊕◌, seq, sum, degree}
use Rattle.reed_solomon.proofs.Sum.{sum_next}
use Rattle.reed_solomon.specs.Inner.{without, without_all, repaired}
use Rattle.general.specs.Each.{Each}
use Rattle.general.proofs.Each.{each_same, each_next}

module _ (poly : ℕ) (P : Primitive poly) (first y d : ℕ) where
  -- no error
  pub off_none : (parity : ℕ) (s : List ℕ) → y ≡ 0 → Each (without poly first y d) parity s s
  off_none parity s e =
      each_same (without poly first y d) parity s
      (λ j h. sym (ap (λ (x : ℕ). seq s j ⊕ mul poly x (power poly (d * (first + j)))) e
      ∙ ap (λ (x : ℕ). seq s j ⊕ x) (mul_left_zero poly (power poly (d * (first + j)))) ∙ xor_zero_r (seq s j)))

  -- its weight in the first syndrome, and in the next
  pub weight_start : (z : ℕ) → z ≡ mul poly y (power poly (d * first % 255)) → z ≡ mul poly y (power poly (d * (first + 0)))
  weight_start z e =
      e ∙ ap (mul poly y)
      (sym (power_period poly P (d * first / 255) (d * first % 255))
      ∙ (let q : 255 * (d * first / 255) + d * first % 255 ≡ d * first = omega arith in
      let r : d * first ≡ d * (first + 0) = omega arith in ap (power poly) (q ∙ r)))

  pub weight_more : (j z v : ℕ) → z ≡ mul poly y (power poly (d * (first + j))) → v ≡ mul poly z (power poly d) → v ≡ mul poly y (power poly (d * (first + (j + 1))))
  weight_more j z v e q =
      q ∙ ap (λ (x : ℕ). mul poly x (power poly d)) e ∙ mul_assoc poly P y (power poly (d * (first + j))) (power poly d)
      ∙ ap (mul poly y) (mul_power poly P (d * (first + j)) d ∙ (let r : d * (first + j) + d ≡ d * (first + (j + 1)) = omega arith in ap (power poly) r))

  pub off_next : (j z : ℕ) (s₀ s : List ℕ) → Each (without poly first y d) j s₀ s → j < length s₀ → z ≡ mul poly y (power poly (d * (first + j)))
      → Each (without poly first y d) (j + 1) s₀ (set s j (seq s j ⊕ z))
  off_next j z s₀ s E h e = each_next (without poly first y d) j (seq s j ⊕ z) s₀ s E h (ap (λ (x : ℕ). seq s j ⊕ x) e)

module _ (poly first n parity : ℕ) (e s₀ : List ℕ) where
  pub off_all_start : Each (without_all poly first n e 0) parity s₀ s₀
  unfolding sum
  off_all_start = each_same (without_all poly first n e 0) parity s₀ (λ j h. sym (xor_zero_r (seq s₀ j)))

  pub off_all_next : (k : ℕ) (s s' : List ℕ) → Each (without_all poly first n e k) parity s₀ s → Each (without poly first (seq e (n - 1 - k)) (n - 1 - k)) parity s s'
      → Each (without_all poly first n e (k + 1)) parity s₀ s'
  unfolding degree
  off_all_next k s s' A E =
      let term : ℕ → ℕ → ℕ = λ j i. mul poly (seq e (degree n i)) (power poly (degree n i * (first + j))) in
      record {
        size = E.size ∙ A.size;
        done = λ j h.
            E.done j h
            ∙ ap₂ ◌⊕◌ (A.done j h) (let q : n - 1 - k ≡ n - suc k = omega arith in ap (λ (d : ℕ). mul poly (seq e d) (power poly (d * (first + j)))) q)
            ∙ xor_assoc (seq s₀ j) (sum (term j) k) (term j k) ∙ ap (λ (x : ℕ). seq s₀ j ⊕ x) (sym (sum_next (term j) k));
        rest = λ j h. E.rest j h ∙ A.rest j h;
      }

  pub off_all_end : (k : ℕ) (s : List ℕ) → Each (without_all poly first n e k) parity s₀ s → k ≤ n → n ≤ k → Each (without_all poly first n e n) parity s₀ s
  off_all_end k s A h q = let r : k ≡ n = omega arith in subst (λ (x : ℕ). Each (without_all poly first n e x) parity s₀ s) r A

pub repaired_next : (n k : ℕ) (e b₀ b : List ℕ) → Each (repaired n e) k b₀ b → k < length b₀ → Each (repaired n e) (k + 1) b₀ (set b k (seq b k ⊕ seq e (n - 1 - k)))
unfolding degree
repaired_next n k e b₀ b E h =
    each_next (repaired n e) k (seq b k ⊕ seq e (n - 1 - k)) b₀ b E h (let q : n - 1 - k ≡ n - suc k = omega arith in ap (λ (d : ℕ). seq b k ⊕ seq e d) q)
