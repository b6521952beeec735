-- A word with no more places that are not zero than it has syndromes in a row that are is zero. Place by place: with c k not zero, each
-- c i is multiplied by X i + X k, which makes a word without the place k whose syndromes are S (j + 1) + X k S j. Assumes nothing.
use Rattle.general.proofs.Names.{◌≡◌, sym, ap, ap₂, ◌∙◌, subst, ◌≢◌, List, [], ◌∷◌, ℕ, zero, suc, ◌+◌, ◌-◌, ◌*◌, ◌%◌, ◌≤◌, ◌<◌, arith, le_of_suc-le-suc}
use Rattle.general.proofs.Names.{not-suc-le-zero, ℕ_discrete, dec_lt, length, xor_self}
use Rattle.field.specs.Field.{power, times, mul}
use Rattle.field.proofs.Field.{Primitive, power_lt, power_pos, power_inj, mul_lt, mul_comm, mul_assoc, mul_power, mul_none, sum_lt}
use Rattle.field.proofs.Field.{mul_sum as sum-mul}
use Rattle.field.proofs.Entries.{mul_right_zero}
use Rattle.reed_solomon.specs.Sum.{◌⊕◌, degree, locator, weight, syndrome}
use Rattle.reed_solomon.proofs.Sum.{Null, sum_ext, sum_add, sum_zero, sum_one, sum_scale, mul_add, mul_left, add_zero_eq}

-- i is none of ks
abbrev pub Out : ℕ → List ℕ → Type 0
Out i [] = Unit {0}
Out i (k ∷ ks) = (i ≢ k) × Out i ks

-- the word c with the place k taken out
unfoldable pub peeled : ℕ → ℕ → ℕ → (ℕ → ℕ) → ℕ → ℕ
peeled poly n k c i = mul poly (c i) (locator poly n i ⊕ locator poly n k)

module _ (poly : ℕ) (P : Primitive poly) where
  abbrev ◌⊗◌ : ℕ → ℕ → ℕ
  ◌⊗◌ = mul poly

  infixl 70 ◌⊗◌
  -- what counts as zero gives zero, and only that does
  pub null_mul : (a b : ℕ) → Null a → a ⊗ b ≡ 0
  unfolding mul times
  null_mul a b z = ap (λ (x : ℕ). times poly x (b % 256)) z

  pub null_div : (a b : ℕ) → Null (a ⊗ b) → ¬ Null b → Null a
  null_div a b e d = mul_none poly P b a (mul_comm poly P b a ∙ omega (arith, mul_lt poly P a b)) d

  pub power_alive : (i : ℕ) → ¬ Null (power poly i)
  power_alive i z = omega (arith, power_lt poly P i, power_pos poly P i)

  -- two powers below the order are two numbers
  pub apart : (a b : ℕ) → a < 255 → b < 255 → a ≢ b → ¬ Null (power poly a ⊕ power poly b)
  apart a b ha hb d z =
      let s = sum_lt (power poly a) (power poly b) (power_lt poly P a) (power_lt poly P b) in
      d (power_inj poly P a b ha hb (add_zero_eq (power poly a) (power poly b) (omega arith)))

  module _ (first n : ℕ) where
    abbrev X : ℕ → ℕ
    X = locator poly n

    abbrev W : ℕ → ℕ → ℕ
    W = weight poly first n

    abbrev S : (ℕ → ℕ) → ℕ → ℕ
    S = syndrome poly first n

    -- the weights of a place are a geometric sequence
    pub weight_next : (i j : ℕ) → W i (suc j) ≡ X i ⊗ W i j
    weight_next i j =
        (let e : degree n i * (first + suc j) ≡ degree n i + degree n i * (first + j) = omega arith in ap (power poly) e)
        ∙ sym (mul_power poly P (degree n i) (degree n i * (first + j)))

    pub syndrome_add : (a b : ℕ → ℕ) (j : ℕ) → S (λ i. a i ⊕ b i) j ≡ S a j ⊕ S b j
    unfolding syndrome
    syndrome_add a b j =
        sum_ext (λ i. (a i ⊕ b i) ⊗ W i j) (λ i. a i ⊗ W i j ⊕ b i ⊗ W i j) n (λ i l. sum-mul poly P (a i) (b i) (W i j))
        ∙ sum_add (λ i. a i ⊗ W i j) (λ i. b i ⊗ W i j) n

    pub syndrome_ext : (a b : ℕ → ℕ) (j : ℕ) → ((i : ℕ) → i < n → a i ≡ b i) → S a j ≡ S b j
    unfolding syndrome
    syndrome_ext a b j e = sum_ext (λ i. a i ⊗ W i j) (λ i. b i ⊗ W i j) n (λ i l. ap (λ (x : ℕ). x ⊗ W i j) (e i l))

    pub syndrome_zero : (c : ℕ → ℕ) → ((i : ℕ) → i < n → Null (c i)) → (j : ℕ) → S c j ≡ 0
    unfolding syndrome
    syndrome_zero c z j = sum_zero (λ i. c i ⊗ W i j) n (λ i l. null_mul (c i) (W i j) (z i l))

    peeled_term : (k : ℕ) (c : ℕ → ℕ) (i j : ℕ) → peeled poly n k c i ⊗ W i j ≡ c i ⊗ W i (suc j) ⊕ X k ⊗ (c i ⊗ W i j)
    unfolding peeled
    peeled_term k c i j =
        mul_assoc poly P (c i) (X i ⊕ X k) (W i j) ∙ ap (mul poly (c i)) (sum-mul poly P (X i) (X k) (W i j))
        ∙ mul_add poly P (c i) (X i ⊗ W i j) (X k ⊗ W i j)
        ∙ ap₂ ◌⊕◌ (ap (mul poly (c i)) (sym (weight_next i j))) (mul_left poly P (c i) (X k) (W i j))

    pub peeled_syndrome : (k : ℕ) (c : ℕ → ℕ) (j : ℕ) → S (peeled poly n k c) j ≡ S c (suc j) ⊕ X k ⊗ S c j
    unfolding syndrome
    peeled_syndrome k c j =
        sum_ext (λ i. peeled poly n k c i ⊗ W i j) (λ i. c i ⊗ W i (suc j) ⊕ X k ⊗ (c i ⊗ W i j)) n (λ i l. peeled_term k c i j)
        ∙ sum_add (λ i. c i ⊗ W i (suc j)) (λ i. X k ⊗ (c i ⊗ W i j)) n
        ∙ ap (λ (x : ℕ). S c (suc j) ⊕ x) (sum_scale poly P (X k) (λ i. c i ⊗ W i j) n)

    pub peeled_null : (k : ℕ) (c : ℕ → ℕ) (i : ℕ) → (i ≢ k → Null (c i)) → Null (peeled poly n k c i)
    unfolding peeled
    peeled_null k c i z = elim (ℕ_discrete i k) [
      | yes e ↦ ap (λ (x : ℕ). x % 256)
          (ap (λ (x : ℕ). c i ⊗ (X x ⊕ X k)) e ∙ ap (mul poly (c i)) (xor_self (X k)) ∙ mul_right_zero poly (c i))
      | no d ↦ ap (λ (x : ℕ). x % 256) (null_mul (c i) (X i ⊕ X k) (z d))
    ]

    -- one place left, and a syndrome that is zero
    last_one : (c : ℕ → ℕ) (j k : ℕ) → k < n → ((i : ℕ) → i < n → i ≢ k → Null (c i)) → S c j ≡ 0 → Null (c k)
    unfolding syndrome
    last_one c j k h z e =
        null_div (c k) (W k j)
        (ap (λ (x : ℕ). x % 256)
        (sym (sum_one (λ i. c i ⊗ W i j) n k h (λ i l d. null_mul (c i) (W i j) (z i l d))) ∙ e))
        (power_alive (degree n k * (first + j)))

    module _ (small : n ≤ 255) where
      -- two places have two locators
      pub places_apart : (i k : ℕ) → i < n → k < n → i ≢ k → ¬ Null (X i ⊕ X k)
      unfolding degree
      places_apart i k hi hk d = apart (n - suc i) (n - suc k) (omega arith) (omega arith) (λ e. d (omega arith))

      pub only_zero : (ks : List ℕ) (b p : ℕ) (c : ℕ → ℕ) → length ks ≤ p → ((i : ℕ) → i < n → Out i ks → Null (c i))
          → ((j : ℕ) → b ≤ j → j < b + p → S c j ≡ 0) → (i : ℕ) → i < n → Null (c i)
      unfolding peeled
      only_zero [] b p c h z s i l = z i l tt
      only_zero (k ∷ ks) b zero c h z s i l = absurd (not-suc-le-zero h)
      only_zero (k ∷ ks) b (suc p) c h z s i l = elim (dec_lt k n) [
        | no d ↦ only_zero ks b (suc p) c (omega arith) (λ i l o. z i l ((λ e. d (subst (λ (x : ℕ). x < n) e l)), o)) s i l
        | yes g ↦
            let rest : (i : ℕ) → i < n → Null (peeled poly n k c i) =
            only_zero ks b p (peeled poly n k c) (le_of_suc-le-suc h) (λ i l o. peeled_null k c i (λ d. z i l (d, o)))
            (λ j lo hi. peeled_syndrome k c j
            ∙ ap₂ (λ (x y : ℕ). x ⊕ X k ⊗ y) (s (suc j) (omega arith) (omega arith)) (s j lo (omega arith))
            ∙ mul_right_zero poly (X k)) in
            let others : (i : ℕ) → i < n → i ≢ k → Null (c i) = λ i l d. null_div (c i) (X i ⊕ X k) (rest i l) (places_apart i k l g d) in
            elim (ℕ_discrete i k) [
              | yes e ↦ subst (λ (x : ℕ). Null (c x)) (sym e) (last_one c b k g others (s b (omega arith) (omega arith)))
              | no d ↦ others i l d
            ]
      ]
