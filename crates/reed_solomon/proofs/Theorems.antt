-- What a customer may quote of blocks (SPECIFICATION 3.6, 3.9, 3.12). Each holds for any polynomial that passes the order test (3.2), any first
-- root, and blocks of at most 255 bytes. Assumes nothing.
use Rattle.general.proofs.Names.{◌≡◌, ◌≢◌, refl, ap, ◌∙◌, List, some, ℕ, suc, ◌+◌, ◌-◌, ◌≤◌, arith, dec_le, T, length}
use Rattle.field.specs.Field.{order_test, power, mul}
use Rattle.field.proofs.Field.{primitive}
use Rattle.reed_solomon.specs.Sum.{sum}
use Rattle.reed_solomon.specs.Block.{is_codeword, distance, in_reach, nearest}
use Rattle.reed_solomon.specs.Erased.{erasures, admits, admitted}
use Rattle.reed_solomon.specs.Places.{locator_at, carried, term_at}
use Rattle.reed_solomon.proofs.Search.{Bytes}
use Rattle.reed_solomon.proofs.Codeword.{near_equal}
use Rattle.reed_solomon.proofs.Nearest.{reach_near, near_reach, near_one, some_near, near_some}
use Rattle.reed_solomon.proofs.Erased.{none_admitted, admits_one, found_admits, admits_found}
use Rattle.reed_solomon.proofs.Terms.{terms_value}

module _ (poly : ℕ) (test : T (order_test poly)) (first parity : ℕ) where
  -- Two different codewords of one length and parity differ in at least parity + 1 places.
  pub least_distance : (u v : List ℕ) → length u ≤ 255 → length u ≡ length v → Bytes u → Bytes v
      → T (is_codeword poly first parity u) → T (is_codeword poly first parity v) → u ≢ v → parity + 1 ≤ distance u v
  least_distance u v small e bu bv cu cv d = elim (dec_le (parity + 1) (distance u v)) [
    | yes h ↦ h
    | no h ↦ absurd (d (near_equal poly (primitive poly test) first parity u v small e bu bv cu cv (omega arith)))
  ]

  -- No block has two codewords in reach.
  pub no_block_has_two : (block u v : List ℕ) → length block ≤ 255
      → T (in_reach poly first parity block u) → T (in_reach poly first parity block v) → u ≡ v
  no_block_has_two block u v small tu tv =
      near_one poly first parity block (primitive poly test) small u v (reach_near poly first parity block u tu) (reach_near poly first parity block v tv)

  -- The search finds the codeword in reach: what it finds is one, and if there is one, it finds that one.
  pub found_in_reach : (block w : List ℕ) → nearest poly first parity block ≡ some w → T (in_reach poly first parity block w)
  found_in_reach block w e = near_reach poly first parity block w (some_near poly first parity block w e)

  pub in_reach_found : (block w : List ℕ) → length block ≤ 255 → T (in_reach poly first parity block w) → nearest poly first parity block ≡ some w
  in_reach_found block w small t = near_some poly first parity block (primitive poly test) small w (reach_near poly first parity block w t)

  -- No block has two codewords that its rule admits, whichever of its places are erased.
  pub no_block_admits_two : (flags block u v : List ℕ) → length block ≤ 255 → length flags ≡ length block
      → T (admits poly first parity flags block u) → T (admits poly first parity flags block v) → u ≡ v
  no_block_admits_two flags block u v small size a b = admits_one poly first parity flags block (primitive poly test) small size u v a b

  -- The search finds the codeword that is admitted: what it finds is one, and if there is one, it finds that one.
  pub found_is_admitted : (flags block w : List ℕ) → admitted poly first parity flags block ≡ some w → T (admits poly first parity flags block w)
  found_is_admitted flags block w e = found_admits poly first parity flags block w e

  pub admitted_is_found : (flags block w : List ℕ) → length block ≤ 255 → length flags ≡ length block → T (admits poly first parity flags block w)
      → admitted poly first parity flags block ≡ some w
  admitted_is_found flags block w small size t = admits_found poly first parity flags block (primitive poly test) small size w t

  -- With no place erased it is the codeword in reach.
  pub none_erased_is_in_reach : (flags block : List ℕ) → erasures flags ≡ 0 → admitted poly first parity flags block ≡ nearest poly first parity block
  none_erased_is_in_reach flags block e = none_admitted poly first parity flags block e

-- The search for error places, by the terms of a locator f of length l. The first root does not enter.
module _ (poly : ℕ) (test : T (order_test poly)) (f : List ℕ) (l : ℕ) (bytes : Bytes f) where
  -- One step, given only the terms at one place: each multiplied by its own fixed power, they are the terms at the next place, and their sum is
  -- the locator's value there.
  pub next_place : (d : ℕ) (t u : ℕ → ℕ) → ((i : ℕ) → i ≤ l → t i ≡ term_at poly f l d i) → ((i : ℕ) → i ≤ l → u i ≡ mul poly (t i) (power poly (l - i)))
      → ((i : ℕ) → i ≤ l → u i ≡ term_at poly f l (suc d) i) × (sum u (suc l) ≡ locator_at poly f l (suc d))
  unfolding carried
  next_place d t u T U = (terms, terms_value poly (primitive poly test) f l bytes (suc d) u terms)
    where
      terms : (i : ℕ) → i ≤ l → u i ≡ term_at poly f l (suc d) i
      terms i h = U i h ∙ ap (λ (x : ℕ). mul poly x (power poly (l - i))) (T i h)

  -- After d steps from the coefficients, the sum of the terms is the locator's value at the place of degree d.
  pub carried_sum_is_value : (d : ℕ) → sum (term_at poly f l d) (suc l) ≡ locator_at poly f l d
  carried_sum_is_value d = terms_value poly (primitive poly test) f l bytes d (term_at poly f l d) (λ i h. refl)
