-- What the bits of an ECI's prefix say of the rest.
use Rattle.general.proofs.Names.{◌≡◌, refl, sym, ap, ◌∙◌, List, ℕ, ◌+◌, ◌-◌, ◌*◌, ◌<◌, ◌≤◌, lt_of_lt_of_le, add_assoc, arith, lt-ltb}
use Rattle.general.proofs.Names.{le-ltb, length, get_or, drop, eq-eqb, ne_eqb, get_or-drop, get_or-eq_default, drop-drop}
use lib.Pow.{pow_mono}
use Rattle.bits.specs.Bits.{bits_of}
use Rattle.bits.proofs.Reading.{length_bits, length_left}
use Rattle.bits.proofs.Words.{WordAt}
use Rattle.segments.specs.declared.Count.TheVariants.{Done, Cut}
use Rattle.segments.specs.Segments.{cut, lacking, failed, eci_value, eci_of}
use Rattle.segments.specs.Positions.{EciLeft}

module _ (s : List ℕ) (i : ℕ) where
  abbrev rest : List ℕ
  rest = drop i (bits_of s)

  -- the field behind a prefix of k bits
  value_cut : (k w : ℕ) → 8 * length s - i < k + w → eci_value k w rest ≡ failed cut
  unfolding eci_value
  value_cut k w h = rw (lt-ltb (length rest) (k + w) (omega (arith, length_left s i)))

  pub field_cut : (k w : ℕ) → i + k ≤ 8 * length s → length (drop (i + k) (bits_of s)) < w → EciLeft s i (eci_value k w rest) Cut
  field_cut k w l h = rw (value_cut k w (omega (arith, length_left s (i + k)))) refl

  pub field_read : (k w v : ℕ) → w ≤ 21 → WordAt w (i + k) v s → EciLeft s i (eci_value k w rest) (Done (i + k + w) v)
  unfolding eci_value
  field_read k w v l r =
      let m = r.room in
      rw (le-ltb (length rest) (k + w) (omega (arith, length_left s i)), drop-drop k i (bits_of s), ← r.is)
      (ap (λ (z : ℕ). Done z v) (add_assoc i k w), rw add_assoc at m, lt_of_lt_of_le r.small (pow_mono l))

  -- the bits of the prefix; those behind the end count as 0
  at : (k : ℕ) → get_or rest k 0 ≡ get_or (bits_of s) (i + k) 0
  at k = get_or-drop i (bits_of s) k 0

  past : (k : ℕ) → 8 * length s ≤ i + k → get_or (bits_of s) (i + k) 0 ≡ 0
  past k h = get_or-eq_default (bits_of s) 0 (omega (arith, length_bits s))

  first : get_or (bits_of s) i 0 ≡ get_or (bits_of s) (i + 0) 0
  first = let e : i ≡ i + 0 = omega arith in ap (λ (k : ℕ). get_or (bits_of s) k 0) e

  pub eci_one : get_or (bits_of s) i 0 ≡ 0 → eci_of rest ≡ eci_value 1 7 rest
  unfolding eci_of
  eci_one e = rw (eq-eqb (get_or rest 0 0) 0 (at 0 ∙ sym first ∙ e))

  pub eci_cut : 8 * length s ≤ i → eci_of rest ≡ failed cut
  eci_cut h = eci_one (first ∙ past 0 (omega arith)) ∙ value_cut 1 7 (omega arith)

  module _ (f : get_or (bits_of s) i 0 ≡ 0 → ⊥) where
    pub eci_two : get_or (bits_of s) (i + 1) 0 ≡ 0 → eci_of rest ≡ eci_value 2 14 rest
    unfolding eci_of
    eci_two e = rw (ne_eqb (get_or rest 0 0) 0 (λ z. f (first ∙ sym (at 0) ∙ z)), eq-eqb (get_or rest 1 0) 0 (at 1 ∙ e))

    pub eci_one_cut : 8 * length s ≤ i + 1 → eci_of rest ≡ failed cut
    eci_one_cut h = eci_two (past 1 h) ∙ value_cut 2 14 (omega arith)

    module _ (g : get_or (bits_of s) (i + 1) 0 ≡ 0 → ⊥) where
      pub eci_three : get_or (bits_of s) (i + 2) 0 ≡ 0 → eci_of rest ≡ eci_value 3 21 rest
      unfolding eci_of
      eci_three e =
          rw (ne_eqb (get_or rest 0 0) 0 (λ z. f (first ∙ sym (at 0) ∙ z)), ne_eqb (get_or rest 1 0) 0 (λ z. g (sym (at 1) ∙ z)), eq-eqb (get_or rest 2 0) 0 (at 2 ∙ e))

      pub eci_two_cut : 8 * length s ≤ i + 2 → eci_of rest ≡ failed cut
      eci_two_cut h = eci_three (past 2 h) ∙ value_cut 3 21 (omega arith)

      pub eci_lacks : (get_or (bits_of s) (i + 2) 0 ≡ 0 → ⊥) → eci_of rest ≡ failed lacking
      unfolding eci_of
      eci_lacks e =
          rw (ne_eqb (get_or rest 0 0) 0 (λ z. f (first ∙ sym (at 0) ∙ z)), ne_eqb (get_or rest 1 0) 0 (λ z. g (sym (at 1) ∙ z)), ne_eqb (get_or rest 2 0) 0 (λ z. e (sym (at 2) ∙ z)))
