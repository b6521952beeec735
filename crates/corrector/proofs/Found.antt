-- The errors that are found at the zeros of a locator, taken off the syndromes and added to the block. Assumes nothing.
use Rattle.general.proofs.Names.{◌≡◌, refl, sym, ap, ap₂, ◌∙◌, ◌≢◌, true, false, false≢true, true≢false, List, ℕ, suc, ◌-◌, ◌≤◌, ◌<◌, arith, ℕ_discrete}
use Rattle.general.proofs.Names.{length, ext_get_or, xor_self, xor_zero_r}
use Rattle.field.proofs.Field.{Primitive}
use Rattle.general.specs.Each.{Each}
use Rattle.reed_solomon.specs.Sum.{◌⊕◌, seq, degree, syndrome}
use Rattle.reed_solomon.specs.Places.{locator_at}
use Rattle.reed_solomon.specs.Inner.{Syndromes, is_clean, ValuesAt, zeros_of, Locates, ErrorAt, Errors, without_all, repaired}
use Rattle.reed_solomon.proofs.Sum.{add_cancel}
use Rattle.reed_solomon.proofs.Peel.{syndrome_add, syndrome_ext}
use Rattle.reed_solomon.proofs.Search.{Bytes}
use Rattle.reed_solomon.proofs.Distance.{zeros_ext, agree_zeros}
use Rattle.reed_solomon.proofs.Codeword.{zero_codeword, eval_syndrome, difference}
use Rattle.reed_solomon.proofs.Clean.{clean_yes, clean_zero}
use Rattle.reed_solomon.proofs.Locates.{error_is}
use Rattle.corrector.specs.Inner.{Applied}

module _ (poly : ℕ) (P : Primitive poly) (first parity : ℕ) (w : List ℕ) (small : length w ≤ 255) (bw : Bytes w)
    (s : List ℕ) (Y : Syndromes poly first parity w s) (h : List ℕ) (l : ℕ) (e₁ : List ℕ) (E₁ : ValuesAt poly h l (length w) e₁) where
  abbrev R : ℕ → ℕ
  R k = locator_at poly h l (degree (length w) k)

  unlocated : ((c : List ℕ) → Locates poly first parity (length w) (difference w c) s h l → ⊥) → Applied poly first parity w s h l false 0 w
  unlocated n = record { fixed = λ e. absurd (true≢false e); left = λ e. refl; found = λ c e A. absurd (n c A) }

  -- a locator with values e₁ that are zero too seldom
  pub applied_few : zeros_of (length w) (seq e₁) < l → Applied poly first parity w s h l false 0 w
  applied_few n = unlocated (λ c A. omega (arith, A.many, zeros_ext (length w) (seq e₁) (locator_at poly h l) E₁.are))

  -- with the errors e₂ where they are zero, and the syndromes s₃ that are left
  module _ (e₂ s₃ : List ℕ) (E₂ : Errors poly first s h l (length w) e₁ e₂) (E₃ : Each (without_all poly first (length w) e₂ (length w)) parity s s₃) where
    abbrev found : ℕ → ℕ
    found k = seq e₂ (degree (length w) k)

    error_at : (k : ℕ) → k < length w → ErrorAt poly first s h l (degree (length w) k) (R k) (found k)
    unfolding degree
    error_at k o = rw (E₁.are (length w - suc k) (omega arith)) at (E₂.done (length w - suc k) (omega arith))

    off_root : (k : ℕ) → k < length w → R k ≢ 0 → found k ≡ 0
    off_root k o d = (error_at k o).none (omega arith)

    -- what is left of a syndrome
    left_is : (j : ℕ) → j < parity → seq s₃ j ≡ seq s j ⊕ syndrome poly first (length w) found j
    unfolding syndrome
    left_is j o = E₃.done j o

    -- where the errors of a codeword are located, they are those found
    module _ (c : List ℕ) (A : Locates poly first parity (length w) (difference w c) s h l) where
      found_is : (k : ℕ) → k < length w → found k ≡ difference w c k
      found_is k o = elim (ℕ_discrete (R k) 0) [
        | yes z ↦ error_is poly P first parity (length w) small (difference w c) s h l A k o z (found k) ((error_at k o).some z)
        | no z ↦ off_root k o z ∙ elim (ℕ_discrete (difference w c k) 0) [ yes q ↦ sym q | no q ↦ absurd (z (A.root k o q)) ]
      ]

      nothing_left : (j : ℕ) → j < parity → seq s₃ j ≡ 0
      nothing_left j o =
          left_is j o
          ∙ ap₂ ◌⊕◌ (A.of j o) (syndrome_ext poly P first (length w) found (difference w c) j found_is)
          ∙ xor_self (syndrome poly first (length w) (difference w c) j)

    pub applied_left : false ≡ is_clean parity s₃ → Applied poly first parity w s h l false 0 w
    applied_left t = unlocated (λ c A. true≢false (clean_yes parity s₃ (nothing_left c A) ∙ sym t))

    -- where nothing is left, the repaired block is a codeword
    module _ (t : true ≡ is_clean parity s₃) (w' : List ℕ) (bw' : Bytes w') (E₄ : Each (repaired (length w) e₂) (length w) w w') where
      pub applied_fixed : (z : ℕ) → z ≡ zeros_of (length w) (seq e₂) → Applied poly first parity w s h l true (length w - z) w'
      applied_fixed z q = record {
        fixed = λ e. record {
          size = E₄.size;
          bytes = bw';
          code = zero_codeword poly first parity w' (λ j o.
              eval_syndrome poly P first w' j bw'
              ∙ ap (λ (n : ℕ). syndrome poly first n (seq w') j) E₄.size
              ∙ syndrome_ext poly P first (length w) (seq w') (λ i. seq w i ⊕ found i) j E₄.done
              ∙ syndrome_add poly P first (length w) (seq w) found j
              ∙ ap (λ (x : ℕ). x ⊕ syndrome poly first (length w) found j) (sym (eval_syndrome poly P first w j bw) ∙ sym (Y.are j o))
              ∙ sym (left_is j o) ∙ clean_zero parity s₃ t j o);
          root = λ k o d. elim (ℕ_discrete (R k) 0) [
            | yes z ↦ z
            | no z ↦ absurd (d (sym (E₄.done k o ∙ ap (λ (x : ℕ). seq w k ⊕ x) (off_root k o z) ∙ xor_zero_r (seq w k))))
          ];
          counted = omega (arith, agree_zeros (seq e₂) w w' (sym E₄.size) E₄.done);
        };
        left = λ e. absurd (false≢true e);
        found = λ c e A. (
          refl,
          ext_get_or 0 w' c (E₄.size ∙ sym e) (λ k o.
              E₄.done k (omega (arith, E₄.size)) ∙ ap (λ (x : ℕ). seq w k ⊕ x) (found_is c A k (omega (arith, E₄.size))) ∙ add_cancel (seq w k) (seq c k)),
        );
      }
