-- Laws of sums: of products with a constant, of two sums in either order, of sums with few terms that are not zero. Assumes nothing.
use Rattle.general.proofs.Names.{◌≡◌, refl, sym, ap, ap₂, ◌∙◌, ◌≢◌, ℕ, zero, suc, ◌+◌, ◌%◌, ◌≤◌, ◌<◌, arith, add-one, add-zero, add-suc, ℕ_discrete, bit_xor}
use Rattle.general.proofs.Names.{xor_self, xor_zero_r, xor_mod}
use Rattle.field.specs.Field.{mul}
use Rattle.field.proofs.Xor.{xor_assoc, xor_swap}
use Rattle.field.proofs.Field.{Primitive, mul_comm, mul_assoc}
use Rattle.field.proofs.Field.{mul_sum as sum-mul}
use Rattle.field.proofs.Entries.{mul_right_zero}
use Rattle.reed_solomon.specs.Sum.{◌⊕◌, sum}

-- ---- sums alone

-- one more, as a loop counts
pub sum_next : (f : ℕ → ℕ) (n : ℕ) → sum f (n + 1) ≡ sum f n ⊕ f n
unfolding sum
sum_next f n = ap (sum f) (add-one n)

pub sum_ext : (f g : ℕ → ℕ) (n : ℕ) → ((i : ℕ) → i < n → f i ≡ g i) → sum f n ≡ sum g n
unfolding sum
sum_ext f g zero h = refl
sum_ext f g (suc n) h = ap₂ ◌⊕◌ (sum_ext f g n (λ i l. h i (omega arith))) (h n (omega arith))

pub sum_zero : (f : ℕ → ℕ) (n : ℕ) → ((i : ℕ) → i < n → f i ≡ 0) → sum f n ≡ 0
unfolding sum
sum_zero f zero h = refl
sum_zero f (suc n) h = ap₂ ◌⊕◌ (sum_zero f n (λ i l. h i (omega arith))) (h n (omega arith))

pub sum_add : (f g : ℕ → ℕ) (n : ℕ) → sum (λ i. f i ⊕ g i) n ≡ sum f n ⊕ sum g n
unfolding sum
sum_add f g zero = refl
sum_add f g (suc n) = ap (λ (x : ℕ). x ⊕ (f n ⊕ g n)) (sum_add f g n) ∙ xor_swap (sum f n) (sum g n) (f n) (g n)

pub sum_swap : (f : ℕ → ℕ → ℕ) (n m : ℕ) → sum (λ i. sum (f i) m) n ≡ sum (λ j. sum (λ i. f i j) n) m
unfolding sum
sum_swap f zero m = sym (sum_zero (λ j. 0) m (λ i l. refl))
sum_swap f (suc n) m = ap (λ (x : ℕ). x ⊕ sum (f n) m) (sum_swap f n m) ∙ sym (sum_add (λ j. sum (λ i. f i j) n) (f n) m)

-- all terms but one are zero
pub sum_one : (f : ℕ → ℕ) (n k : ℕ) → k < n → ((i : ℕ) → i < n → i ≢ k → f i ≡ 0) → sum f n ≡ f k
unfolding sum
sum_one f zero k h z = absurd (omega arith)
sum_one f (suc n) k h z = elim (ℕ_discrete n k) [
  | yes e ↦ ap₂ ◌⊕◌ (sum_zero f n (λ i l. z i (omega arith) (omega arith))) (ap f e)
  | no d ↦ ap₂ ◌⊕◌ (sum_one f n k (omega arith) (λ i l. z i (omega arith))) (z n (omega arith) d) ∙ xor_zero_r (f k)
]

-- zeros at the end
pub sum_more : (f : ℕ → ℕ) (n m : ℕ) → n ≤ m → ((i : ℕ) → n ≤ i → i < m → f i ≡ 0) → sum f m ≡ sum f n
unfolding sum
sum_more f n zero h z = let e : zero ≡ n = omega arith in ap (sum f) e
sum_more f n (suc m) h z = elim (ℕ_discrete n (suc m)) [
  | yes e ↦ ap (sum f) (sym e)
  | no d ↦ ap₂ ◌⊕◌ (sum_more f n m (omega arith) (λ i l k. z i l (omega arith))) (z m (omega arith) (omega arith)) ∙ xor_zero_r (sum f n)
]

-- zeros at the start
pub sum_drop : (f : ℕ → ℕ) (m n : ℕ) → ((i : ℕ) → i < m → f i ≡ 0) → sum f (m + n) ≡ sum (λ j. f (m + j)) n
unfolding sum
sum_drop f m zero z = ap (sum f) (add-zero m) ∙ sum_zero f m z
sum_drop f m (suc n) z = ap (sum f) (add-suc m n) ∙ ap (λ (x : ℕ). x ⊕ f (m + n)) (sum_drop f m n z)

pub add_cancel : (a b : ℕ) → a ⊕ (a ⊕ b) ≡ b
add_cancel a b = sym (xor_assoc a a b) ∙ ap (λ (x : ℕ). x ⊕ b) (xor_self a)

-- what sums to zero is equal
pub add_zero_eq : (a b : ℕ) → a ⊕ b ≡ 0 → a ≡ b
add_zero_eq a b e = sym (xor_zero_r a) ∙ ap (bit_xor a) (sym e) ∙ add_cancel a b

-- ---- and products

-- `Null a`: a counts as zero in a product
abbrev pub Null : ℕ → Type 0
Null a = a % 256 ≡ 0

pub null_add : (a b : ℕ) → Null a → Null b → Null (a ⊕ b)
null_add a b x y = xor_mod a b 8 ∙ ap₂ ◌⊕◌ x y

module _ (poly : ℕ) (P : Primitive poly) where
  abbrev ◌⊗◌ : ℕ → ℕ → ℕ
  ◌⊗◌ = mul poly

  infixl 70 ◌⊗◌
  pub mul_add : (c a b : ℕ) → c ⊗ (a ⊕ b) ≡ c ⊗ a ⊕ c ⊗ b
  mul_add c a b = mul_comm poly P c (a ⊕ b) ∙ sum-mul poly P a b c ∙ ap₂ ◌⊕◌ (mul_comm poly P a c) (mul_comm poly P b c)

  pub mul_left : (a b c : ℕ) → a ⊗ (b ⊗ c) ≡ b ⊗ (a ⊗ c)
  mul_left a b c = sym (mul_assoc poly P a b c) ∙ ap (λ (x : ℕ). x ⊗ c) (mul_comm poly P a b) ∙ mul_assoc poly P b a c

  pub sum_scale : (c : ℕ) (f : ℕ → ℕ) (n : ℕ) → sum (λ i. c ⊗ f i) n ≡ c ⊗ sum f n
  unfolding sum
  sum_scale c f zero = sym (mul_right_zero poly c)
  sum_scale c f (suc n) = ap (λ (x : ℕ). x ⊕ c ⊗ f n) (sum_scale c f n) ∙ sym (mul_add c (sum f n) (f n))
