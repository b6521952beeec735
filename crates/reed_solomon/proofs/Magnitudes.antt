-- The error at a root, as the code computes it. Assumes nothing.
use Rattle.general.proofs.Names.{◌≡◌, refl, sym, ap, ap₂, ◌∙◌, subst, subst₃, List, ℕ, suc, ◌+◌, ◌-◌, ◌*◌, ◌/◌, ◌%◌, ◌≤◌, ◌<◌, arith, add-one, mul-le-mul}
use Rattle.general.proofs.Names.{ℕ_discrete, length, set, length-set, get_or-set_same, get_or-set_other}
use Rattle.field.specs.Field.{raised, power, mul}
use Rattle.field.proofs.Field.{Primitive, mul_lt, mul_assoc, mul_one, mul_power, power_period}
use Rattle.reed_solomon.specs.Sum.{◌⊕◌, seq, sum, horner, degree}
use Rattle.reed_solomon.proofs.Sum.{sum_next}
use Rattle.reed_solomon.specs.Inner.{Reduced, stepped, SteppedTwo, divided_at, numerator, denominator, Magnitude, ErrorAt, Errors}
use Rattle.reed_solomon.proofs.Values.{two_at_once}

-- ---- the locator divided by x + α^d

-- after j of l coefficients: what the next is made of, the sum over the syndromes, and the value at α^d
pub record Dividing (poly : ℕ) (s f : List ℕ) (l d j m num den : ℕ) : Type 0 where
  pub next : m ≡ horner poly (seq f) (power poly d) j
  pub over : num ≡ sum (λ i. mul poly (divided_at poly f d i) (seq s (degree l i))) j
  pub value : den ≡ horner poly (divided_at poly f d) (power poly d) j

pub dividing_start : (poly : ℕ) (s f : List ℕ) (l d : ℕ) → Dividing poly s f l d 0 0 0 0
unfolding horner sum
dividing_start poly s f l d = record { next = refl; over = refl; value = refl }

module _ (poly : ℕ) (s f : List ℕ) (l d j m num den a b p : ℕ) (D : Dividing poly s f l d j m num den)
    (ea : a ≡ mul poly m (power poly d)) (eb : b ≡ mul poly den (power poly d)) (ep : p ≡ mul poly (a ⊕ seq f j) (seq s (l - 1 - j))) where
  next_is : a ⊕ seq f j ≡ divided_at poly f d j
  unfolding horner
  next_is = ap (λ (x : ℕ). x ⊕ seq f j) (ea ∙ ap (λ (x : ℕ). mul poly x (power poly d)) D.next)

  pub dividing_next : Dividing poly s f l d (j + 1) (a ⊕ seq f j) (num ⊕ p) (b ⊕ (a ⊕ seq f j))
  unfolding horner degree
  dividing_next = record {
    next = next_is ∙ ap (horner poly (seq f) (power poly d)) (sym (add-one j));
    over =
        ap₂ ◌⊕◌ D.over
        (ep ∙ ap₂ (mul poly) next_is (let e : l - 1 - j ≡ l - suc j = omega arith in ap (seq s) e))
        ∙ sym (sum_next (λ i. mul poly (divided_at poly f d i) (seq s (degree l i))) j);
    value =
        ap₂ ◌⊕◌ (eb ∙ ap (λ (x : ℕ). mul poly x (power poly d)) D.value) next_is
        ∙ ap (horner poly (divided_at poly f d) (power poly d)) (sym (add-one j));
  }

pub dividing_two : (poly : ℕ) (s f : List ℕ) (l d j m num den m' num' den' : ℕ) → Dividing poly s f l d j m num den
    → SteppedTwo poly d (seq f j) (seq f (j + 1)) (seq s (l - 1 - j)) (seq s (l - 1 - (j + 1))) m num den m' num' den' → Dividing poly s f l d (j + 2) m' num' den'
dividing_two poly s f l d j m num den m' num' den' D S =
    let D₁ = dividing_next poly s f l d j m num den _ _ _ D refl refl refl in
    let D₂ = dividing_next poly s f l d (j + 1) _ _ _ _ _ _ D₁ refl refl refl in
    let e : j + 1 + 1 ≡ j + 2 = omega arith in
    record {
      next = S.next ∙ D₂.next ∙ ap (horner poly (seq f) (power poly d)) e;
      over = S.over ∙ D₂.over ∙ ap (sum (λ i. mul poly (divided_at poly f d i) (seq s (degree l i)))) e;
      value = S.value ∙ D₂.value ∙ ap (horner poly (divided_at poly f d) (power poly d)) e;
    }

pub dividing_end : (poly : ℕ) (s f : List ℕ) (l d j m num den : ℕ) → Dividing poly s f l d j m num den → j ≤ l → l ≤ j
    → (num ≡ numerator poly s f l d) × (den ≡ denominator poly f l d)
unfolding numerator denominator
dividing_end poly s f l d j m num den D h k =
    let e : j ≡ l = omega arith in (
      D.over ∙ ap (sum (λ i. mul poly (divided_at poly f d i) (seq s (degree l i)))) e,
      D.value ∙ ap (horner poly (divided_at poly f d) (power poly d)) e,
    )

pub dividing_last : (poly : ℕ) (s f : List ℕ) (l d j m num den x y : ℕ) → Dividing poly s f l d j m num den → j + 1 ≡ l
    → x ≡ num ⊕ mul poly (stepped poly d (seq f j) m) (seq s (l - 1 - j)) → y ≡ stepped poly d (stepped poly d (seq f j) m) den
    → (x ≡ numerator poly s f l d) × (y ≡ denominator poly f l d)
dividing_last poly s f l d j m num den x y D h ex ey =
    let E = dividing_end poly s f l d (j + 1) _ _ _ (dividing_next poly s f l d j m num den _ _ _ D refl refl refl) (omega arith) (omega arith) in
    (ex ∙ E.0, ey ∙ E.1)

pub last_is : (poly d a s m num den u v p : ℕ) → u ≡ mul poly m (power poly d) → v ≡ mul poly den (power poly d) → p ≡ mul poly (u ⊕ a) s
    → (num ⊕ p ≡ num ⊕ mul poly (stepped poly d a m) s) × (v ⊕ (u ⊕ a) ≡ stepped poly d (stepped poly d a m) den)
last_is poly d a s m num den u v p eu ev ep =
    (ap (λ (x : ℕ). num ⊕ x) (ep ∙ ap (λ (x : ℕ). mul poly (x ⊕ a) s) eu), ap₂ ◌⊕◌ ev (ap (λ (x : ℕ). x ⊕ a) eu))

pub two_are : (poly : ℕ) → Primitive poly → (d n a b s t m num den u v w y z p q : ℕ) → Reduced (d + d) n → u ≡ mul poly m (power poly d)
    → v ≡ mul poly m (power poly n) → w ≡ mul poly a (power poly d) → y ≡ mul poly den (power poly n) → z ≡ mul poly (u ⊕ a) (power poly d)
    → p ≡ mul poly (u ⊕ a) s → q ≡ mul poly (v ⊕ (w ⊕ b)) t
    → SteppedTwo poly d a b s t m num den (v ⊕ (w ⊕ b)) ((num ⊕ p) ⊕ q) (y ⊕ (z ⊕ (v ⊕ (w ⊕ b))))
two_are poly P d n a b s t m num den u v w y z p q R eu ev ew ey ez ep eq =
    let ex = ap (λ (x : ℕ). x ⊕ a) eu in
    let em = two_at_once poly P d n a b m v w R ev ew in
    record {
      next = em;
      over = ap₂ (λ (x y : ℕ). (num ⊕ x) ⊕ y) (ep ∙ ap (λ (x : ℕ). mul poly x s) ex) (eq ∙ ap (λ (x : ℕ). mul poly x t) em);
      value = two_at_once poly P d n (u ⊕ a) (v ⊕ (w ⊕ b)) den y z R ey ez ∙ ap₂ (λ (x y : ℕ). stepped poly d y (stepped poly d x den)) ex em;
    }

-- ---- the error of the fraction

pub small_product : (a b : ℕ) → a ≤ 255 → b ≤ 255 → a * b ≤ 65025
small_product a b ha hb = mul-le-mul ha hb

module _ (poly : ℕ) (P : Primitive poly) (first : ℕ) (s f : List ℕ) (l d : ℕ) where
  pub magnitude_none : denominator poly f l d ≡ 0 → Magnitude poly first s f l d 0
  magnitude_none e = record { byte = omega arith; is = λ h. absurd (omega arith); none = λ z. refl }

  -- z divided by α^(d * first)
  unweighted : (z : ℕ) → z < 256 → mul poly (mul poly z (power poly (255 - d * first % 255))) (power poly (d * first)) ≡ z
  unfolding raised
  unweighted z h =
      mul_assoc poly P z (power poly (255 - d * first % 255)) (power poly (d * first))
      ∙ ap (mul poly z) (mul_power poly P (255 - d * first % 255) (d * first)
      ∙ (let e : 255 - d * first % 255 + d * first ≡ 255 * (d * first / 255 + 1) + 0 = omega arith in ap (power poly) e)
      ∙ power_period poly P (d * first / 255 + 1) 0)
      ∙ mul_one poly P z ∙ (let e : z % 256 ≡ z = omega arith in e)

  pub magnitude_some : (num den z y : ℕ) → num ≡ numerator poly s f l d → den ≡ denominator poly f l d → 0 < den → z < 256 → mul poly z den ≡ num
      → y ≡ mul poly z (power poly (255 - d * first % 255)) → Magnitude poly first s f l d y
  magnitude_some num den z y en ed p h q e = record {
    byte = omega (arith, mul_lt poly P z (power poly (255 - d * first % 255)));
    is = λ _.
        ap₂ (mul poly) (ap (λ (x : ℕ). mul poly x (power poly (d * first))) e ∙ unweighted z h) (sym ed) ∙ q ∙ en;
    none = λ n. absurd (omega arith);
  }

-- ---- the errors, degree by degree

module _ (poly first : ℕ) (s f : List ℕ) (l : ℕ) (e₀ : List ℕ) where
  pub errors_start : Errors poly first s f l 0 e₀ e₀
  errors_start = record { size = refl; done = λ d h. absurd (omega arith); rest = λ d h. refl }

  pub errors_next : (d y : ℕ) (e : List ℕ) → Errors poly first s f l d e₀ e → d < length e₀ → ErrorAt poly first s f l d (seq e d) y
      → Errors poly first s f l (d + 1) e₀ (set e d y)
  errors_next d y e E h A = record {
    size = length-set e d y ∙ E.size;
    done = λ i u. elim (ℕ_discrete i d) [
      | yes q ↦ subst₃ (λ (i x v : ℕ). ErrorAt poly first s f l i x v) (sym q) (E.rest d (omega arith) ∙ ap (seq e₀) (sym q))
          (sym (ap (seq (set e d y)) q ∙ get_or-set_same e d y 0 (omega (arith, E.size)))) A
      | no q ↦ subst (ErrorAt poly first s f l i (seq e₀ i)) (sym (get_or-set_other e d i y 0 q)) (E.done i (omega arith))
    ];
    rest = λ i u. get_or-set_other e d i y 0 (omega arith) ∙ E.rest i (omega arith);
  }

  pub errors_end : (d n : ℕ) (e : List ℕ) → Errors poly first s f l d e₀ e → d ≤ n → n ≤ d → Errors poly first s f l n e₀ e
  errors_end d n e E h k = let q : d ≡ n = omega arith in subst (λ (x : ℕ). Errors poly first s f l x e₀ e) q E
