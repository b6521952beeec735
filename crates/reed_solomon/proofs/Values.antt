-- The syndromes of a block, byte by byte. Assumes nothing.
use Rattle.general.proofs.Names.{◌≡◌, refl, sym, ap, ◌∙◌, List, [], ◌∷◌, ◌++◌, ℕ, suc, ◌+◌, ◌*◌, ◌≤◌, ◌<◌, arith, dec_lt, length, drop}
use Rattle.general.proofs.Names.{drop_of_length-le, drop-cons}
use Rattle.field.specs.Field.{power, mul}
use Rattle.field.proofs.Field.{Primitive, mul_assoc, mul_power, power_period}
use Rattle.field.proofs.Field.{mul_sum as sum-mul}
use Rattle.field.proofs.Xor.{xor_assoc}
use Rattle.reed_solomon.specs.Sum.{◌⊕◌, seq}
use Rattle.reed_solomon.specs.Block.{eval_from}
use Rattle.reed_solomon.specs.Inner.{advanced, stepped, Reduced, Syndromes}
use Rattle.general.specs.Each.{Each}
use Rattle.general.proofs.Each.{each_same}
use Rattle.reed_solomon.proofs.Search.{Bytes}
use Rattle.reed_solomon.proofs.Horner.{horner_lt}
use Rattle.reed_solomon.proofs.Codeword.{eval_append, eval_horner}

-- ---- several bytes a time: products that do not wait for each other

pub reduced_power : (poly : ℕ) → Primitive poly → (n r : ℕ) → Reduced n r → power poly r ≡ power poly n
reduced_power poly P n r R = sym (power_period poly P R.times r) ∙ ap (power poly) (sym R.is)

module _ (poly : ℕ) (P : Primitive poly) (n : ℕ) where
  pub two_at_once : (r a b x u v : ℕ) → Reduced (n + n) r → u ≡ mul poly x (power poly r) → v ≡ mul poly a (power poly n)
      → u ⊕ (v ⊕ b) ≡ stepped poly n b (stepped poly n a x)
  two_at_once r a b x u v R eu ev = simp (eu, ev, reduced_power poly P (n + n) r R, sum-mul poly P, mul_assoc poly P, mul_power poly P, xor_assoc)

  pub four_at_once : (a b c d x t u v w : ℕ) → t ≡ mul poly x (power poly (4 * n)) → u ≡ mul poly a (power poly (3 * n)) → v ≡ mul poly b (power poly (2 * n))
      → w ≡ mul poly c (power poly n) → ((t ⊕ u) ⊕ v) ⊕ (w ⊕ d) ≡ stepped poly n d (stepped poly n c (stepped poly n b (stepped poly n a x)))
  four_at_once a b c d x t u v w et eu ev ew =
      let e₄ : 4 * n ≡ n + n + n + n = omega arith in
      let e₃ : 3 * n ≡ n + n + n = omega arith in
      let e₂ : 2 * n ≡ n + n = omega arith in
      simp (et, eu, ev, ew, e₄, e₃, e₂, sum-mul poly P, mul_assoc poly P, mul_power poly P, xor_assoc)

-- ---- the bytes of a block from the place `at` on: those before i are behind s₀ already, and those left make of s what all make of s₀

pub record Running (poly first parity : ℕ) (block : List ℕ) (at : ℕ) (s₀ : List ℕ) (i : ℕ) (s : List ℕ) : Type 0 where
  pub size : length s ≡ length s₀
  pub are : (j : ℕ) → j < parity → advanced poly first (drop i block) j (seq s j) ≡ advanced poly first (drop at block) j (seq s₀ j)
  pub rest : (j : ℕ) → parity ≤ j → seq s j ≡ seq s₀ j

module _ (poly first parity : ℕ) (block : List ℕ) (at : ℕ) (s₀ : List ℕ) where
  pub running_start : Running poly first parity block at s₀ at s₀
  running_start = record { size = refl; are = λ j h. refl; rest = λ j h. refl }

  pub running_next : (bytes : List ℕ) (i k : ℕ) (s s' : List ℕ) → Running poly first parity block at s₀ i s → Each (advanced poly first bytes) parity s s'
      → drop i block ≡ bytes ++ drop k block → Running poly first parity block at s₀ k s'
  running_next bytes i k s s' R E e = record {
    size = E.size ∙ R.size;
    are = λ j h.
        let x = power poly (first + j) in
        ap (λ (v : ℕ). eval_from poly x v (drop k block)) (E.done j h) ∙ sym (eval_append poly x (seq s j) bytes (drop k block))
        ∙ ap (eval_from poly x (seq s j)) (sym e) ∙ R.are j h;
    rest = λ j h. E.rest j h ∙ R.rest j h;
  }

  -- the rest at once, and nothing left
  pub running_rest : (i : ℕ) (s s' : List ℕ) → Running poly first parity block at s₀ i s → Each (advanced poly first (drop i block)) parity s s'
      → Each (advanced poly first (drop at block)) parity s₀ s'
  running_rest i s s' R E = record { size = E.size ∙ R.size; done = λ j h. E.done j h ∙ R.are j h; rest = λ j h. E.rest j h ∙ R.rest j h }

  pub running_end : (i : ℕ) (s : List ℕ) → Running poly first parity block at s₀ i s → length block ≤ i → Each (advanced poly first (drop at block)) parity s₀ s
  unfolding eval_from
  running_end i s R h =
      running_rest i s s R
      (each_same (advanced poly first (drop i block)) parity s
      (λ j l. ap (eval_from poly (power poly (first + j)) (seq s j)) (sym (drop_of_length-le block h))))

-- from zeros on, the whole block gives its syndromes
pub all_advanced : (poly : ℕ) → Primitive poly → (first parity : ℕ) (block s₀ s : List ℕ) → length s₀ ≡ 256 → ((i : ℕ) → seq s₀ i ≡ 0) → Bytes block
    → Each (advanced poly first block) parity s₀ s → Syndromes poly first parity block s
all_advanced poly P first parity block s₀ s e z b E = record { size = E.size ∙ e; bytes = byte; are = value }
  where
    value : (j : ℕ) → j < parity → seq s j ≡ advanced poly first block j 0
    value j h = E.done j h ∙ ap (advanced poly first block j) (z j)

    byte : Bytes s
    byte j = elim (dec_lt j parity) [
      | yes h ↦
          let x = power poly (first + j) in
          omega (arith, value j h, eval_horner poly x block, horner_lt poly P (seq block) x (length block) b)
      | no h ↦ omega (arith, E.rest j (omega arith), z j)
    ]

-- ---- the next bytes of a block

module _ (block : List ℕ) where
  cut : (i k : ℕ) → i < length block → suc i ≡ k → drop i block ≡ seq block i ∷ drop k block
  cut i k h e = drop-cons block i 0 h ∙ ap (λ (n : ℕ). seq block i ∷ drop n block) e

  pub cut_one : (i : ℕ) → i < length block → drop i block ≡ (seq block i ∷ []) ++ drop (i + 1) block
  cut_one i h = cut i (i + 1) h (omega arith)

  pub cut_two : (i k : ℕ) → k ≤ length block → i + 2 ≡ k → drop i block ≡ (seq block i ∷ seq block (i + 1) ∷ []) ++ drop k block
  cut_two i k h e = cut i (i + 1) (omega arith) (omega arith) ∙ ap (λ (l : List ℕ). seq block i ∷ l) (cut (i + 1) k (omega arith) (omega arith))

  pub cut_four : (i k : ℕ) → k ≤ length block → i + 4 ≡ k
      → drop i block ≡ (seq block i ∷ seq block (i + 1) ∷ seq block (i + 2) ∷ seq block (i + 3) ∷ []) ++ drop k block
  cut_four i k h e =
      cut_two i (i + 2) (omega arith) refl ∙ ap (λ (l : List ℕ). seq block i ∷ seq block (i + 1) ∷ l)
      (cut (i + 2) (i + 3) (omega arith) (omega arith) ∙ ap (λ (l : List ℕ). seq block (i + 2) ∷ l) (cut (i + 3) k (omega arith) (omega arith)))
