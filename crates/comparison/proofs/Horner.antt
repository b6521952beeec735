-- Horner's rule, and copies. Assumes nothing.
use Rattle.general.proofs.Names.{◌≡◌, sym, ap, ap₂, ◌∙◌, List, ℕ, suc, ◌+◌, ◌<◌, arith, length, ext_get_or}
use Rattle.field.specs.Field.{mul}
use Rattle.reed_solomon.specs.Sum.{◌⊕◌, horner}
use Rattle.reed_solomon.specs.Places.{locator_at}
use Rattle.reed_solomon.specs.Inner.{copied, ValuesAt}
use Rattle.general.specs.Each.{Each, table}
use Rattle.general.proofs.Lists.{length_table, get_or_table}

-- one step of Horner's rule
pub horner_next : (poly x v r i : ℕ) (f : ℕ → ℕ) → v ≡ horner poly f x i → r ≡ mul poly v x → r ⊕ f i ≡ horner poly f x (i + 1)
unfolding horner
horner_next poly x v r i f e h =
    ap (λ (y : ℕ). y ⊕ f i) (h ∙ ap (λ (y : ℕ). mul poly y x) e) ∙ (let q : suc i ≡ i + 1 = omega arith in ap (horner poly f x) q)

-- a copy of a whole array is that array
pub all_copied : (f g₀ g : List ℕ) (n : ℕ) → length f ≡ n → length g₀ ≡ n → Each (copied f) n g₀ g → g ≡ f
all_copied f g₀ g n hf hg E = ext_get_or 0 g f (omega (arith, E.size)) (λ i h. E.done i (omega (arith, E.size)))

-- values found by a field's table for a copy of the locator, copied: they are the locator's own
pub values_copied : (p q l : ℕ) (f g v e e' : List ℕ) → p ≡ q → g ≡ f → ValuesAt p g l (length e) v → Each (copied v) (length e) e e'
    → e' ≡ table (length e) (locator_at q f l)
values_copied p q l f g v e e' hp hg found E =
    ext_get_or 0 e' (table (length e) (locator_at q f l)) (E.size ∙ sym (length_table (length e) (locator_at q f l)))
    (λ i h. let s : i < length e = omega (arith, E.size) in
    E.done i s ∙ found.are i s ∙ ap₂ (λ (x : ℕ) (y : List ℕ). locator_at x y l i) hp hg ∙ sym (get_or_table (length e) (locator_at q f l) i s))
