-- What a customer may quote of Correct a block with erased places (SPECIFICATION 3.10): which answer comes when, each exactly. For any polynomial
-- that passes the order test (3.2), any first root, and a flag beside each byte. Assumes nothing.
use Rattle.general.proofs.Names.{◌≡◌, refl, sym, ap, ◌∙◌, subst, true, false, none, some, Option, List, ℕ, ◌≤◌, ◌<◌, arith, dec_lt, T, length}
use Rattle.field.specs.Field.{order_test}
use Rattle.reed_solomon.specs.Block.{distance, unfit}
use Rattle.reed_solomon.specs.Erased.{erasures, admits, admitted}
use Rattle.reed_solomon.proofs.Theorems.{found_is_admitted, admitted_is_found}
use Rattle.corrector.specs.Correct.{BlockOutcome, refused_block, settled, correct_of}
use Rattle.erasure_corrector.specs.Erased.{correct_erased_of}
use Rattle.erasure_corrector.proofs.Repairs.{unfit_refused, many_refused, fit_settled, none_erased}

-- With no place erased a block is corrected as before.
pub none_erased_is_as_before : (poly first parity : ℕ) (flags block : List ℕ) → erasures flags ≡ 0
    → correct_erased_of poly first parity flags block ≡ correct_of poly first parity block
none_erased_is_as_before poly first parity flags block e = sym (none_erased poly first parity flags block e)

-- A parity or a length that no block has: 5.
pub unfit_is_five : (poly first parity : ℕ) (flags block : List ℕ) → unfit parity block ≡ true → correct_erased_of poly first parity flags block ≡ refused_block 5 block
unfit_is_five poly first parity flags block e = sym (unfit_refused poly first parity flags block e)

-- All others.
module _ (poly : ℕ) (test : T (order_test poly)) (first parity : ℕ) (flags block : List ℕ) (fit : unfit parity block ≡ false) where
  abbrev answer : BlockOutcome
  answer = correct_erased_of poly first parity flags block

  -- w is a codeword that the block's rule admits
  abbrev Admits : List ℕ → Type 0
  Admits w = T (admits poly first parity flags block w)

  -- 15: more places erased than there is parity ..
  pub too_many_is_fifteen : parity < erasures flags → answer ≡ refused_block 15 block
  too_many_is_fifteen h = sym (many_refused poly first parity flags block fit h)

  module _ (few : erasures flags ≤ parity) where
    -- what is found decides
    found : (o : Option (List ℕ)) → admitted poly first parity flags block ≡ o → answer ≡ settled block o
    found o e = sym (fit_settled poly first parity flags block fit few) ∙ ap (settled block) e

    number_is : (o : Option (List ℕ)) → admitted poly first parity flags block ≡ o → answer.number ≡ (settled block o).number
    number_is o e = ap (λ (x : BlockOutcome). x.number) (found o e)

    -- 6: its rule admits no codeword ..
    pub none_is_six : ((w : List ℕ) → Admits w → ⊥) → answer ≡ refused_block 6 block
    unfolding settled
    none_is_six h = go (admitted poly first parity flags block) refl
      where
        go : (o : Option (List ℕ)) → admitted poly first parity flags block ≡ o → answer ≡ refused_block 6 block
        go none e = found none e
        go (some w) e = absurd (h w (found_is_admitted poly test first parity flags block w e))

  -- .. and 15 comes only then.
  pub fifteen_is_too_many : answer.number ≡ 15 → parity < erasures flags
  unfolding settled refused_block
  fifteen_is_too_many e = elim (dec_lt parity (erasures flags)) [ yes h ↦ h | no h ↦ absurd (go (omega arith) (admitted poly first parity flags block) refl) ]
    where
      go : erasures flags ≤ parity → (o : Option (List ℕ)) → admitted poly first parity flags block ≡ o → ⊥
      go few none q = omega (arith, number_is few none q)
      go few (some w) q = omega (arith, number_is few (some w) q)

  -- 6 comes only where no more places are erased than there is parity, and the rule admits no codeword.
  module _ (small : length block ≤ 255) (size : length flags ≡ length block) where
    pub six_is_none : answer.number ≡ 6 → (erasures flags ≤ parity) × ((w : List ℕ) → Admits w → ⊥)
    unfolding settled refused_block
    six_is_none e = elim (dec_lt parity (erasures flags)) [
      | yes h ↦ absurd (omega (arith, ap (λ (x : BlockOutcome). x.number) (too_many_is_fifteen h)))
      | no h ↦ (omega arith, λ w t. omega (arith, number_is (omega arith) (some w) (admitted_is_found poly test first parity flags block w small size t)))
    ]

    -- 0: the block becomes the codeword that its rule admits, and the count is the number of places in which it differed, erased or not ..
    pub admitted_is_set : erasures flags ≤ parity → (w : List ℕ) → Admits w → answer ≡ record { number = 0; count = distance block w; block = w }
    unfolding settled
    admitted_is_set few w t = found few (some w) (admitted_is_found poly test first parity flags block w small size t)

  -- .. and 0 comes only then.
  pub accepted_is_admitted : answer.number ≡ 0 → (erasures flags ≤ parity) × Admits answer.block × (answer.count ≡ distance block answer.block)
  unfolding settled refused_block
  accepted_is_admitted e = elim (dec_lt parity (erasures flags)) [
    | yes h ↦ absurd (omega (arith, ap (λ (x : BlockOutcome). x.number) (too_many_is_fifteen h)))
    | no h ↦ (let g = go (omega arith) (admitted poly first parity flags block) refl in (omega arith, g.0, g.1))
  ]
    where
      go : erasures flags ≤ parity → (o : Option (List ℕ)) → admitted poly first parity flags block ≡ o
          → Admits answer.block × (answer.count ≡ distance block answer.block)
      go few none q = absurd (omega (arith, number_is few none q))
      go few (some w) q =
          let is : answer.block ≡ w = ap (λ (x : BlockOutcome). x.block) (found few (some w) q) in (
            subst Admits (sym is) (found_is_admitted poly test first parity flags block w q),
            ap (λ (x : BlockOutcome). x.count) (found few (some w) q) ∙ ap (distance block) (sym is),
          )
