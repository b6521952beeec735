-- The terms of the locator, carried from one place to the next: their sum is the locator's value at each. Assumes nothing.
use Rattle.general.proofs.Names.{◌≡◌, refl, sym, ap, ap₂, ◌∙◌, subst, List, ℕ, zero, suc, ◌+◌, ◌-◌, ◌*◌, ◌%◌, ◌≤◌, ◌<◌, arith, length, set}
use Rattle.field.specs.Field.{raised, power, mul}
use Rattle.field.proofs.Field.{Primitive, mul_assoc, mul_one, mul_power}
use Rattle.reed_solomon.specs.Sum.{◌⊕◌, seq, sum, degree}
use Rattle.reed_solomon.proofs.Sum.{sum_ext, sum_next}
use Rattle.reed_solomon.proofs.Horner.{horner_sum, horner_lt}
use Rattle.reed_solomon.specs.Places.{locator_at, carried, term_at}
use Rattle.reed_solomon.specs.Inner.{Reduced, TermsAt, FourValues, CarriedOn, ValuesAt}
use Rattle.general.specs.Each.{Each}
use Rattle.general.proofs.Each.{each_next}
use Rattle.reed_solomon.proofs.Values.{reduced_power}
use Rattle.reed_solomon.proofs.Search.{Bytes}

-- ---- a term

module _ (poly : ℕ) where
  -- d places further, and k more
  carried_more : (n d k x : ℕ) → carried poly n k (carried poly n d x) ≡ carried poly n (d + k) x
  unfolding carried
  carried_more n d zero x = let e : d ≡ d + 0 = omega arith in ap (λ (m : ℕ). carried poly n m x) e
  carried_more n d (suc k) x =
      ap (carried poly n 1) (carried_more n d k x) ∙ (let e : suc (d + k) ≡ d + suc k = omega arith in ap (λ (m : ℕ). carried poly n m x) e)

module _ (poly : ℕ) (P : Primitive poly) where
  -- from the second place on it is the term times one power
  carried_power : (n d x : ℕ) → carried poly n (suc d) x ≡ mul poly x (power poly (suc d * n))
  unfolding carried
  carried_power n zero x = let e : n ≡ 1 * n = omega arith in ap (λ (m : ℕ). mul poly x (power poly m)) e
  carried_power n (suc d) x =
      ap (λ (y : ℕ). mul poly y (power poly n)) (carried_power n d x) ∙ mul_assoc poly P x (power poly (suc d * n)) (power poly n)
      ∙ ap (mul poly x) (mul_power poly P (suc d * n) n ∙ (let e : suc d * n + n ≡ suc (suc d) * n = omega arith in ap (power poly) e))

  pub by_reduced : (n k m t r : ℕ) → Reduced (suc k * n) m → r ≡ mul poly t (power poly m) → r ≡ carried poly n (suc k) t
  by_reduced n k m t r R h = h ∙ ap (mul poly t) (reduced_power poly P (suc k * n) m R) ∙ sym (carried_power n k t)

  -- a byte at every place
  byte_power : (n d x : ℕ) → x < 256 → carried poly n d x ≡ mul poly x (power poly (d * n))
  unfolding carried raised
  byte_power n zero x h =
      (let z : x ≡ x % 256 = omega arith in z) ∙ sym (mul_one poly P x) ∙ (let e : 0 ≡ 0 * n = omega arith in ap (λ (m : ℕ). mul poly x (power poly m)) e)
  byte_power n (suc d) x h = carried_power n d x

-- ---- four sums

-- the sums of the first i terms, at their own place and at the next three
pub record Sums (poly l : ℕ) (terms : List ℕ) (i a b c d : ℕ) : Type 0 where
  pub at : a ≡ sum (seq terms) i
  pub one : b ≡ sum (λ j. carried poly (l - j) 1 (seq terms j)) i
  pub two : c ≡ sum (λ j. carried poly (l - j) 2 (seq terms j)) i
  pub three : d ≡ sum (λ j. carried poly (l - j) 3 (seq terms j)) i

module _ (poly l : ℕ) (terms : List ℕ) where
  pub sums_start : Sums poly l terms 0 0 0 0 0
  unfolding sum
  sums_start = record { at = refl; one = refl; two = refl; three = refl }

  pub sums_next : (i t a b c d b' c' d' : ℕ) → Sums poly l terms i a b c d → t ≡ seq terms i → b' ≡ carried poly (l - i) 1 t
      → c' ≡ carried poly (l - i) 2 t → d' ≡ carried poly (l - i) 3 t → Sums poly l terms (i + 1) (a ⊕ t) (b ⊕ b') (c ⊕ c') (d ⊕ d')
  sums_next i t a b c d b' c' d' S e eb ec ed = record {
    at = ap₂ ◌⊕◌ S.at e ∙ sym (sum_next (seq terms) i);
    one = term 1 b b' S.one eb;
    two = term 2 c c' S.two ec;
    three = term 3 d d' S.three ed;
  }
    where
      term : (k x y : ℕ) → x ≡ sum (λ j. carried poly (l - j) k (seq terms j)) i → y ≡ carried poly (l - i) k t
          → x ⊕ y ≡ sum (λ j. carried poly (l - j) k (seq terms j)) (i + 1)
      term k x y h z = ap₂ ◌⊕◌ h (z ∙ ap (carried poly (l - i) k) e) ∙ sym (sum_next (λ j. carried poly (l - j) k (seq terms j)) i)

  pub sums_end : (i n a b c d : ℕ) → Sums poly l terms i a b c d → i ≡ n → Sums poly l terms n a b c d
  sums_end i n a b c d S e = subst (λ (k : ℕ). Sums poly l terms k a b c d) e S

-- ---- the locator that the terms are of

module _ (poly : ℕ) (f : List ℕ) (l : ℕ) where
  -- at degree 0 they are the coefficients
  pub terms_start : Bytes f → length f ≡ 256 → TermsAt poly f l 0 f
  unfolding carried
  terms_start b h = record { bytes = b; size = h; are = λ i u. refl }

  -- a term, and all of them, k places further
  further : (d k : ℕ) (terms : List ℕ) → TermsAt poly f l d terms → (i : ℕ) → i ≤ l → carried poly (l - i) k (seq terms i) ≡ term_at poly f l (d + k) i
  further d k terms T i u = ap (carried poly (l - i) k) (T.are i u) ∙ carried_more poly (l - i) d k (seq f i)

  terms_next : (d k : ℕ) (terms terms' : List ℕ) → TermsAt poly f l d terms → Each (λ i x. carried poly (l - i) k x) (suc l) terms terms'
      → TermsAt poly f l (d + k) terms'
  terms_next d k terms terms' T E = record { bytes = T.bytes; size = E.size ∙ T.size; are = λ i u. E.done i (omega arith) ∙ further d k terms T i u }

  -- the values at four places, put one behind the other
  pub values_next : (d v₀ v₁ v₂ v₃ : ℕ) (e₀ e e' : List ℕ) → FourValues poly f l d v₀ v₁ v₂ v₃ → d + 4 ≤ length e₀
      → Each (λ k x. locator_at poly f l k) d e₀ e → e' ≡ set (set (set (set e d v₀) (d + 1) v₁) (d + 2) v₂) (d + 3) v₃
      → Each (λ k x. locator_at poly f l k) (d + 4) e₀ e'
  values_next d v₀ v₁ v₂ v₃ e₀ e e' F h E q =
      let e₁ = set e d v₀ in
      let e₂ = set e₁ (d + 1) v₁ in
      let e₃ = set e₂ (d + 2) v₂ in
      let E₁ = each_next at d v₀ e₀ e E (omega arith) F.at in
      let E₂ = more 1 e₂ (each_next at (d + 1) v₁ e₀ e₁ E₁ (omega arith) F.one) in
      let E₃ = more 2 e₃ (each_next at (d + 2) v₂ e₀ e₂ E₂ (omega arith) F.two) in
      subst (Each at (d + 4) e₀) (sym q) (more 3 _ (each_next at (d + 3) v₃ e₀ e₃ E₃ (omega arith) F.three))
    where
      at : ℕ → ℕ → ℕ
      at k x = locator_at poly f l k

      more : (k : ℕ) (s : List ℕ) → Each at (d + k + 1) e₀ s → Each at (d + (k + 1)) e₀ s
      more k s E = let q : d + k + 1 ≡ d + (k + 1) = omega arith in subst (λ (n : ℕ). Each at n e₀ s) q E

  pub values_end : (d n : ℕ) (e₀ e : List ℕ) → Each (λ k x. locator_at poly f l k) d e₀ e → n ≤ d → length e₀ ≡ 256 → ValuesAt poly f l n e
  values_end d n e₀ e E h z = record { size = E.size ∙ z; are = λ k u. E.done k (omega arith) }

module _ (poly : ℕ) (P : Primitive poly) (f : List ℕ) (l : ℕ) where
  -- the sum of the terms at a place is the value there
  pub terms_value : Bytes f → (d : ℕ) (t : ℕ → ℕ) → ((i : ℕ) → i ≤ l → t i ≡ term_at poly f l d i) → sum t (suc l) ≡ locator_at poly f l d
  unfolding degree raised
  terms_value b d t T =
      sum_ext t (λ i. mul poly (seq f i) (power poly (0 + d * degree (suc l) i))) (suc l)
      (λ i h. T i (omega arith) ∙ byte_power poly P (l - i) d (seq f i) (b i) ∙ ap (λ (n : ℕ). mul poly (seq f i) (power poly n)) (same i))
      ∙ horner_sum poly P (seq f) d 0 (suc l)
      ∙ mul_one poly P (locator_at poly f l d)
      ∙ (let h = horner_lt poly P (seq f) (power poly d) (suc l) b in omega arith)
    where
      same : (i : ℕ) → d * (l - i) ≡ 0 + d * (suc l - suc i)
      same i = let e : l - i ≡ suc l - suc i = omega arith in ap (λ (n : ℕ). d * n) e ∙ omega arith

  four_values : (d v₀ v₁ v₂ v₃ : ℕ) (terms : List ℕ) → TermsAt poly f l d terms → Sums poly l terms (suc l) v₀ v₁ v₂ v₃ → FourValues poly f l d v₀ v₁ v₂ v₃
  four_values d v₀ v₁ v₂ v₃ terms T S = record {
    at = S.at ∙ terms_value T.bytes d (seq terms) T.are;
    one = S.one ∙ value 1;
    two = S.two ∙ value 2;
    three = S.three ∙ value 3;
  }
    where
      value : (k : ℕ) → sum (λ i. carried poly (l - i) k (seq terms i)) (suc l) ≡ locator_at poly f l (d + k)
      value k = terms_value T.bytes (d + k) (λ i. carried poly (l - i) k (seq terms i)) (further poly f l d k terms T)

-- the step: of whatever locator and place the terms are
pub carried_on : (poly : ℕ) → Primitive poly → (l v₀ v₁ v₂ v₃ : ℕ) (terms terms' : List ℕ) → Sums poly l terms (suc l) v₀ v₁ v₂ v₃
    → Each (λ i x. carried poly (l - i) 4 x) (suc l) terms terms' → CarriedOn poly l terms v₀ v₁ v₂ v₃ terms'
carried_on poly P l v₀ v₁ v₂ v₃ terms terms' S E f d T =
    (four_values poly P f l d v₀ v₁ v₂ v₃ terms T S, terms_next poly f l d 4 terms terms' T E)
