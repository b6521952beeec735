-- Bytes stored in order: one more, one stretch after another, and all of them.
use Rattle.general.proofs.Names.{◌≡◌, refl, sym, ap, ◌∙◌, List, ◌++◌, ℕ, ◌+◌, ◌-◌, ◌<◌, ◌≤◌, arith, dec_lt, ℕ_discrete, length, get_or, set, drop}
use Rattle.general.proofs.Names.{length-append, length-drop, length-set, get_or-append, get_or-set_same, get_or-set_other, get_or-append-add, get_or-drop}
use Rattle.general.proofs.Names.{ext_get_or}
use Rattle.symbol.specs.Inner.{Stored}
use Rattle.general.specs.Each.{table}
use Rattle.general.proofs.Lists.{length_table, get_or_table}

pub stored_none : (f : ℕ → ℕ) (from : ℕ) (g : List ℕ) → Stored f from from g g
stored_none f from g = record { size = refl; here = λ i a b. absurd (omega arith); before = λ i h. refl; after = λ i h. refl }

-- then the next stretch
pub stored_next : {f : ℕ → ℕ} {a b c : ℕ} {g g' g'' : List ℕ} → a ≤ b → b ≤ c → Stored f a b g g' → Stored f b c g' g'' → Stored f a c g g''
stored_next {f} {a} {b} {c} {g} {g'} {g''} h k s t =
    record {
      size = t.size ∙ s.size;
      here = λ i l r. elim (dec_lt i b) [ yes y ↦ t.before i y ∙ s.here i l y | no n ↦ t.here i (omega arith) r ];
      before = λ i l. t.before i (omega arith) ∙ s.before i l;
      after = λ i l. t.after i l ∙ s.after i (omega arith);
    }

-- one more byte
pub stored_more : {f : ℕ → ℕ} {from to v : ℕ} {g g' : List ℕ} → from ≤ to → to < length g' → v ≡ f to → Stored f from to g g'
    → Stored f from (to + 1) g (set g' to v)
stored_more {f} {from} {to} {v} {g} {g'} h l e s =
    record {
      size = length-set g' to v ∙ s.size;
      here = λ i a b. elim (ℕ_discrete i to) [
        | yes y ↦ ap (λ (k : ℕ). get_or (set g' to v) k 0) y ∙ get_or-set_same g' to v 0 l ∙ e ∙ ap f (sym y)
        | no n ↦ get_or-set_other g' to i v 0 n ∙ s.here i a (omega arith)
      ];
      before = λ i a. get_or-set_other g' to i v 0 (λ z. omega arith) ∙ s.before i a;
      after = λ i a. get_or-set_other g' to i v 0 (λ z. omega arith) ∙ s.after i (omega arith);
    }

-- the same bytes by another rule
pub stored_as : {f : ℕ → ℕ} (h : ℕ → ℕ) {a b : ℕ} {g g' : List ℕ} → ((i : ℕ) → a ≤ i → i < b → f i ≡ h i) → Stored f a b g g' → Stored h a b g g'
stored_as h e s = record { size = s.size; here = λ i l r. s.here i l r ∙ e i l r; before = s.before; after = s.after }

-- from the start on
pub stored_all : {f : ℕ → ℕ} {n : ℕ} {g g' : List ℕ} → n ≤ length g → Stored f 0 n g g' → g' ≡ table n f ++ drop n g
stored_all {f} {n} {g} {g'} h s =
    ext_get_or 0 g' (table n f ++ drop n g) (omega (arith, length-append (table n f) (drop n g), length_table n f, length-drop n g))
    (λ i l. elim (dec_lt i n) [
      | yes y ↦ s.here i (omega arith) y ∙ sym (get_or-append (table n f) (drop n g) 0 i (omega (arith, length_table n f)) ∙ get_or_table n f i y)
      | no k ↦ s.after i (omega arith) ∙ sym (far i (omega arith))
    ])
  where
    far : (i : ℕ) → n ≤ i → get_or (table n f ++ drop n g) i 0 ≡ get_or g i 0
    far i k =
        let e : i ≡ length (table n f) + (i - n) = omega (arith, length_table n f) in
        let d : n + (i - n) ≡ i = omega arith in
        ap (λ (j : ℕ). get_or (table n f ++ drop n g) j 0) e ∙ get_or-append-add (table n f) (drop n g) (i - n) 0 ∙ get_or-drop n g (i - n) 0
        ∙ ap (λ (j : ℕ). get_or g j 0) d
