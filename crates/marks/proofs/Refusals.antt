-- The first refusal of a list of tests: 0 exactly where every test holds. Assumes nothing.
use Rattle.general.proofs.Names.{◌≡◌, refl, sym, ◌∙◌, Bool, true, false, ◌&&◌, ◌≢◌, List, [], ◌∷◌, ◌++◌, ℕ, suc, arith, ℕ_discrete, eq-eqb, ne_eqb}
use Rattle.general.proofs.Choices.{never}
use Rattle.marks.specs.Read.{first_refusal, unless}

-- a test that holds gives no refusal, and only such a test
pub unless_true : (b : Bool) (n : ℕ) → b ≡ true → unless b n ≡ 0
unless_true b n e = rw e

pub true_unless : (b : Bool) (n : ℕ) → unless b (suc n) ≡ 0 → b ≡ true
true_unless true n e = refl
true_unless false n e = absurd (omega arith)

pub unless_false : (b : Bool) (n : ℕ) → b ≡ false → unless b n ≡ n
unless_false b n e = rw e

pub false_unless : (b : Bool) (n : ℕ) → unless b (suc n) ≡ suc n → b ≡ false
false_unless true n e = absurd (omega arith)
false_unless false n e = refl

pub first_skips : (n : ℕ) (ns : List ℕ) → n ≡ 0 → first_refusal (n ∷ ns) ≡ first_refusal ns
unfolding first_refusal
first_skips n ns e = simp (eq-eqb n 0 e)

pub first_takes : (n : ℕ) (ns : List ℕ) → (n ≡ 0 → ⊥) → first_refusal (n ∷ ns) ≡ n
unfolding first_refusal
first_takes n ns d = simp (ne_eqb n 0 d)

-- no refusal: none of the first, and none of the others
pub first_none : (n : ℕ) (ns : List ℕ) → first_refusal (n ∷ ns) ≡ 0 → (n ≡ 0) × (first_refusal ns ≡ 0)
first_none n ns e = elim (ℕ_discrete n 0) [
  | yes z ↦ (z, sym (first_skips n ns z) ∙ e)
  | no d ↦ absurd (d (sym (first_takes n ns d) ∙ e))
]

-- ---- the first refusal of two lists: that of the first list, or if there is none, that of the second

pub first_left : (ns ms : List ℕ) → first_refusal ns ≢ 0 → first_refusal (ns ++ ms) ≡ first_refusal ns
unfolding first_refusal
first_left [] ms d = absurd (d refl)
first_left (n ∷ ns) ms d = elim (ℕ_discrete n 0) [
  | yes z ↦ first_skips n (ns ++ ms) z ∙ first_left ns ms (λ e. d (first_skips n ns z ∙ e)) ∙ sym (first_skips n ns z)
  | no y ↦ first_takes n (ns ++ ms) y ∙ sym (first_takes n ns y)
]

pub first_right : (ns ms : List ℕ) → first_refusal ns ≡ 0 → first_refusal (ns ++ ms) ≡ first_refusal ms
unfolding first_refusal
first_right [] ms e = refl
first_right (n ∷ ns) ms e = elim (ℕ_discrete n 0) [
  | yes z ↦ first_skips n (ns ++ ms) z ∙ first_right ns ms (sym (first_skips n ns z) ∙ e)
  | no y ↦ absurd (y (sym (first_takes n ns y) ∙ e))
]

-- of one number, this
pub first_one : (n : ℕ) → first_refusal (n ∷ []) ≡ n
unfolding first_refusal
first_one n = elim (ℕ_discrete n 0) [
  | yes z ↦ first_skips n [] z ∙ sym z
  | no y ↦ first_takes n [] y
]

-- ---- tests as facts

pub both_true : (a b : Bool) → (a && b) ≡ true → (a ≡ true) × (b ≡ true)
both_true true b e = (refl, e)
both_true false b e = never cc
