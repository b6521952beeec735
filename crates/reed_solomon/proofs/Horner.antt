-- Polynomials by Horner's rule, highest coefficient first: as sums, divided by x + a, how many roots they have, and what they make of the
-- syndromes of a word. Assumes nothing.
use Rattle.general.proofs.Names.{◌≡◌, refl, sym, ap, ap₂, ◌∙◌, subst, ◌≢◌, ℕ, zero, suc, ◌+◌, ◌-◌, ◌*◌, ◌%◌, ◌≤◌, ◌<◌, zero-le, arith}
use Rattle.general.proofs.Names.{ℕ_discrete, eq-eqb, ne_eqb, xor_self, xor_zero_r}
use Rattle.field.specs.Field.{raised, power, mul}
use Rattle.field.proofs.Xor.{xor_assoc, xor_swap}
use Rattle.field.proofs.Field.{Primitive, mul_lt, mul_comm, mul_assoc, mul_one, mul_power, sum_lt}
use Rattle.field.proofs.Field.{mul_sum as sum-mul}
use Rattle.field.proofs.Entries.{mul_left_zero, mul_right_zero}
use Rattle.reed_solomon.specs.Sum.{◌⊕◌, sum, horner, degree, locator, weight, syndrome}
use Rattle.reed_solomon.specs.Register.{discrepancy, Tail}
use Rattle.reed_solomon.specs.Inner.{zeros_of}
use Rattle.reed_solomon.proofs.Sum.{Null, null_add, sum_ext, sum_swap, sum_scale, mul_add, mul_left, add_cancel}
use Rattle.reed_solomon.proofs.Peel.{null_div, apart}

-- f divided by x + a
abbrev pub quotient : ℕ → (ℕ → ℕ) → ℕ → ℕ → ℕ
quotient poly f a j = horner poly f a (suc j)

-- f times x + a
unfoldable pub rooted : ℕ → ℕ → (ℕ → ℕ) → ℕ → ℕ
rooted poly a f zero = f 0
rooted poly a f (suc i) = f (suc i) ⊕ mul poly a (f i)

pub horner_ext : (poly : ℕ) (f g : ℕ → ℕ) (x n : ℕ) → ((i : ℕ) → i < n → f i ≡ g i) → horner poly f x n ≡ horner poly g x n
unfolding horner
horner_ext poly f g x zero e = refl
horner_ext poly f g x (suc n) e = ap₂ (λ (a b : ℕ). mul poly a x ⊕ b) (horner_ext poly f g x n (λ i l. e i (omega arith))) (e n (omega arith))

module _ (poly : ℕ) (P : Primitive poly) where
  abbrev ◌⊗◌ : ℕ → ℕ → ℕ
  ◌⊗◌ = mul poly

  infixl 70 ◌⊗◌
  pub horner_lt : (f : ℕ → ℕ) (x n : ℕ) → ((i : ℕ) → f i < 256) → horner poly f x n < 256
  unfolding horner
  horner_lt f x zero b = omega arith
  horner_lt f x (suc n) b = sum_lt (horner poly f x n ⊗ x) (f n) (mul_lt poly P (horner poly f x n) x) (b n)

  -- the first coefficient alone
  pub horner_one : (f : ℕ → ℕ) (x : ℕ) → horner poly f x 1 ≡ f 0
  unfolding horner
  horner_one f x = ap (λ (y : ℕ). y ⊕ f 0) (mul_left_zero poly x)

  -- as a sum
  pub horner_sum : (f : ℕ → ℕ) (e a m : ℕ) → sum (λ j. f j ⊗ power poly (a + e * degree m j)) m ≡ horner poly f (power poly e) m ⊗ power poly a
  unfolding horner sum degree
  horner_sum f e a zero = sym (mul_left_zero poly (power poly a))
  horner_sum f e a (suc m) =
      ap₂ ◌⊕◌
      (sum_ext (λ j. f j ⊗ power poly (a + e * degree (suc m) j)) (λ j. power poly e ⊗ (f j ⊗ power poly (a + e * degree m j))) m (λ j h. term j h)
      ∙ sum_scale poly P (power poly e) (λ j. f j ⊗ power poly (a + e * degree m j)) m
      ∙ ap (mul poly (power poly e)) (horner_sum f e a m)
      ∙ sym (mul_assoc poly P (power poly e) (horner poly f (power poly e) m) (power poly a))
      ∙ ap (λ (y : ℕ). y ⊗ power poly a) (mul_comm poly P (power poly e) (horner poly f (power poly e) m)))
      (ap (λ (k : ℕ). f m ⊗ power poly k) (last m))
      ∙ sym (sum-mul poly P (horner poly f (power poly e) m ⊗ power poly e) (f m) (power poly a))
    where
      last : (m : ℕ) → a + e * degree (suc m) m ≡ a
      last m = let z : suc m - suc m ≡ 0 = omega arith in ap (λ (k : ℕ). a + e * k) z ∙ omega arith

      term : (j : ℕ) → j < m → f j ⊗ power poly (a + e * degree (suc m) j) ≡ power poly e ⊗ (f j ⊗ power poly (a + e * degree m j))
      term j h =
          (let z : suc m - suc j ≡ suc (m - suc j) = omega arith in
          let y : a + e * suc (m - suc j) ≡ e + (a + e * (m - suc j)) = omega arith in
          ap (λ (k : ℕ). f j ⊗ power poly k) (ap (λ (k : ℕ). a + e * k) z ∙ y))
          ∙ ap (mul poly (f j)) (sym (mul_power poly P e (a + e * (m - suc j))))
          ∙ mul_left poly P (f j) (power poly e) (power poly (a + e * (m - suc j)))

  -- the quotient by x + a: (y + a) q(y) = f(y) + f(a)
  step_law : (y a M r F c : ℕ) → (y ⊕ a) ⊗ M ≡ F ⊕ r → (y ⊕ a) ⊗ (M ⊗ y ⊕ r) ≡ (F ⊗ y ⊕ c) ⊕ (r ⊗ a ⊕ c)
  step_law y a M r F c e =
      mul_add poly P (y ⊕ a) (M ⊗ y) r
      ∙ ap₂ ◌⊕◌
      (sym (mul_assoc poly P (y ⊕ a) M y) ∙ ap (λ (z : ℕ). z ⊗ y) e ∙ sum-mul poly P F r y)
      (mul_comm poly P (y ⊕ a) r ∙ mul_add poly P r y a)
      ∙ xor_assoc (F ⊗ y) (r ⊗ y) (r ⊗ y ⊕ r ⊗ a) ∙ ap (λ (z : ℕ). F ⊗ y ⊕ z) (add_cancel (r ⊗ y) (r ⊗ a))
      ∙ sym (xor_swap (F ⊗ y) c (r ⊗ a) c ∙ ap (λ (z : ℕ). (F ⊗ y ⊕ r ⊗ a) ⊕ z) (xor_self c) ∙ xor_zero_r (F ⊗ y ⊕ r ⊗ a))

  pub quotient_law : (f : ℕ → ℕ) (y a n : ℕ) → (y ⊕ a) ⊗ horner poly (quotient poly f a) y n ≡ horner poly f y (suc n) ⊕ horner poly f a (suc n)
  unfolding horner
  quotient_law f y a zero =
      mul_right_zero poly (y ⊕ a) ∙ sym (ap₂ ◌⊕◌ (horner_one f y) (horner_one f a) ∙ xor_self (f 0))
  quotient_law f y a (suc n) =
      step_law y a (horner poly (quotient poly f a) y n) (horner poly f a (suc n)) (horner poly f y (suc n)) (f (suc n)) (quotient_law f y a n)

  -- a second root is a root of the quotient by the first
  pub quotient_root : (f : ℕ → ℕ) (a b m : ℕ) → a < 255 → b < 255 → a ≢ b → Null (horner poly f (power poly a) (suc m))
      → Null (horner poly f (power poly b) (suc m)) → Null (horner poly (quotient poly f (power poly b)) (power poly a) m)
  quotient_root f a b m ha hb d za zb =
      let x = power poly a in
      let y = power poly b in
      null_div poly P (horner poly (quotient poly f y) x m) (x ⊕ y)
      (subst Null (sym (quotient_law f x y m) ∙ mul_comm poly P (x ⊕ y) (horner poly (quotient poly f y) x m))
      (null_add (horner poly f x (suc m)) (horner poly f y (suc m)) za zb))
      (apart poly P a b ha hb d)

  -- fewer roots than coefficients: z is zero at exponents of roots alone
  pub few_zeros : (n m : ℕ) (f z : ℕ → ℕ) → n ≤ 255 → ¬ Null (f 0) → ((d : ℕ) → d < n → z d ≡ 0 → Null (horner poly f (power poly d) (suc m)))
      → zeros_of n z ≤ m
  unfolding zeros_of
  few_zeros zero m f z h u r = zero-le
  few_zeros (suc n) zero f z h u r = elim (ℕ_discrete (z n) 0) [
    | no e ↦ simp (ne_eqb (z n) 0 e) (omega (arith, few_zeros n 0 f z (omega arith) u (λ d l. r d (omega arith))))
    | yes e ↦ absurd (u (subst Null (horner_one f (power poly n)) (r n (omega arith) e)))
  ]
  few_zeros (suc n) (suc m) f z h u r = elim (ℕ_discrete (z n) 0) [
    | no e ↦ simp (ne_eqb (z n) 0 e) (omega (arith, few_zeros n (suc m) f z (omega arith) u (λ d l. r d (omega arith))))
    | yes e ↦ simp (eq-eqb (z n) 0 e) (omega (
      arith,
      few_zeros n m (quotient poly f (power poly n)) z (omega arith) (λ y. u (subst Null (horner_one f (power poly n)) y))
          (λ d l q. quotient_root f d n (suc m) (omega arith) (omega arith) (λ a. omega arith) (r d (omega arith) q) (r n (omega arith) e)),
    ))
  ]

  -- times x + a
  rooted_step : (f : ℕ → ℕ) (a y n : ℕ) → horner poly (rooted poly a f) y (suc n) ≡ horner poly f y (suc n) ⊕ a ⊗ horner poly f y n
  unfolding horner rooted
  rooted_step f a y zero = sym (ap (λ (z : ℕ). (0 ⊗ y ⊕ f 0) ⊕ z) (mul_right_zero poly a) ∙ xor_zero_r (0 ⊗ y ⊕ f 0))
  rooted_step f a y (suc n) =
      let G = horner poly f y n in
      let F = G ⊗ y ⊕ f n in
      ap (λ (z : ℕ). z ⊗ y ⊕ (f (suc n) ⊕ a ⊗ f n)) (rooted_step f a y n)
      ∙ ap (λ (z : ℕ). z ⊕ (f (suc n) ⊕ a ⊗ f n)) (sum-mul poly P F (a ⊗ G) y ∙ ap (λ (z : ℕ). F ⊗ y ⊕ z) (mul_assoc poly P a G y))
      ∙ xor_swap (F ⊗ y) (a ⊗ (G ⊗ y)) (f (suc n)) (a ⊗ f n)
      ∙ ap (λ (z : ℕ). (F ⊗ y ⊕ f (suc n)) ⊕ z) (sym (mul_add poly P a (G ⊗ y) (f n)))

  pub rooted_law : (f : ℕ → ℕ) (a y l : ℕ) → Tail f l → horner poly (rooted poly a f) y (suc (suc l)) ≡ (y ⊕ a) ⊗ horner poly f y (suc l)
  unfolding Tail horner
  rooted_law f a y l t =
      rooted_step f a y (suc l)
      ∙ ap (λ (z : ℕ). z ⊕ a ⊗ horner poly f y (suc l)) (next ∙ mul_comm poly P (horner poly f y (suc l)) y)
      ∙ sym (sum-mul poly P y a (horner poly f y (suc l)))
    where
      next : horner poly f y (suc (suc l)) ≡ horner poly f y (suc l) ⊗ y
      next = ap (λ (z : ℕ). horner poly f y (suc l) ⊗ y ⊕ z) (t (suc l) (omega arith)) ∙ xor_zero_r (horner poly f y (suc l) ⊗ y)

  module _ (first n : ℕ) where
    abbrev X : ℕ → ℕ
    X = locator poly n

    abbrev W : ℕ → ℕ → ℕ
    W = weight poly first n

    abbrev S : (ℕ → ℕ) → ℕ → ℕ
    S = syndrome poly first n

    -- a word's syndrome is its value at the root
    pub syndrome_value : (c : ℕ → ℕ) (j : ℕ) → ((i : ℕ) → c i < 256) → horner poly c (power poly (first + j)) n ≡ S c j
    unfolding syndrome raised
    syndrome_value c j b =
        (let v = horner_lt c (power poly (first + j)) n b in
        let z : horner poly c (power poly (first + j)) n ≡ horner poly c (power poly (first + j)) n % 256 = omega arith in z)
        ∙ sym (mul_one poly P (horner poly c (power poly (first + j)) n)) ∙ sym (horner_sum c (first + j) 0 n)
        ∙ sum_ext (λ i. c i ⊗ power poly (0 + (first + j) * degree n i)) (λ i. c i ⊗ W i j) n
        (λ i h. let z : 0 + (first + j) * degree n i ≡ degree n i * (first + j) = omega arith in ap (λ (k : ℕ). c i ⊗ power poly k) z)

    -- the weights of one place under a polynomial
    weighted : (f : ℕ → ℕ) (i q m : ℕ) → sum (λ j. f j ⊗ W i (q + degree m j)) m ≡ horner poly f (X i) m ⊗ W i q
    weighted f i q m =
        sum_ext (λ j. f j ⊗ W i (q + degree m j)) (λ j. f j ⊗ power poly (degree n i * (first + q) + degree n i * degree m j)) m
        (λ j h. let z : degree n i * (first + (q + degree m j)) ≡ degree n i * (first + q) + degree n i * degree m j = omega arith in
        ap (λ (k : ℕ). f j ⊗ power poly k) z)
        ∙ horner_sum f (degree n i) (degree n i * (first + q)) m

    -- a polynomial over the syndromes of a word: each place is multiplied by its value at the place's locator
    pub convolution : (c f : ℕ → ℕ) (q m : ℕ) → sum (λ j. f j ⊗ S c (q + degree m j)) m ≡ S (λ i. c i ⊗ horner poly f (X i) m) q
    unfolding syndrome
    convolution c f q m =
        sum_ext (λ j. f j ⊗ sum (λ i. c i ⊗ W i (q + degree m j)) n) (λ j. sum (λ i. c i ⊗ (f j ⊗ W i (q + degree m j))) n) m
        (λ j h. sym (sum_scale poly P (f j) (λ i. c i ⊗ W i (q + degree m j)) n)
        ∙ sum_ext (λ i. f j ⊗ (c i ⊗ W i (q + degree m j))) (λ i. c i ⊗ (f j ⊗ W i (q + degree m j))) n (λ i l. mul_left poly P (f j) (c i) (W i (q + degree m j))))
        ∙ sum_swap (λ j i. c i ⊗ (f j ⊗ W i (q + degree m j))) m n
        ∙ sum_ext (λ i. sum (λ j. c i ⊗ (f j ⊗ W i (q + degree m j))) m) (λ i. c i ⊗ horner poly f (X i) m ⊗ W i q) n
        (λ i l. sum_scale poly P (c i) (λ j. f j ⊗ W i (q + degree m j)) m ∙ ap (mul poly (c i)) (weighted f i q m)
        ∙ sym (mul_assoc poly P (c i) (horner poly f (X i) m) (W i q)))

    pub discrepancy_value : (c f : ℕ → ℕ) (l x : ℕ) → l ≤ x → discrepancy poly (S c) f l x ≡ S (λ i. c i ⊗ horner poly f (X i) (suc l)) (x - l)
    unfolding discrepancy degree
    discrepancy_value c f l x h =
        sum_ext (λ i. f i ⊗ S c (x - i)) (λ i. f i ⊗ S c (x - l + degree (suc l) i)) (suc l) (λ i o. ap (λ (k : ℕ). f i ⊗ S c k) (index i o))
        ∙ convolution c f (x - l) (suc l)
      where
        index : (i : ℕ) → i < suc l → x - i ≡ x - l + degree (suc l) i
        index i o = omega arith
