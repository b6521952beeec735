-- Signed coordinates as the machine reads them, and the place that two of them name.
use Rattle.general.proofs.Names.{◌≡◌, refl, sym, ap, subst, ◌∙◌, Bool, true, false, cond, ℕ, zero, suc, ◌+◌, ◌-◌, ◌*◌, ◌<◌, ◌≤◌, ◌^◌, mul-le-mul, arith, T}
use Rattle.general.proofs.Names.{ltb, lt-ltb, le-ltb, ltb-true}
use lib.IntN.{ℤ, pos, negsuc, nat_abs, neg_ℤ, ◌+ℤ◌, ◌-ℤ◌, sub_ℕ, +ℤ_assoc, neg_ℤ-+ℤ}
use lib.Signed.{lt_z, mag, non_neg}
use mir.Syntax.{w64}
use mir.Val.{Fits, SFits, to_z, of_z}
use mir.Facts.{to_z-of_z, Fits-nat_abs}
use Rattle.symbol.specs.Layout.{place_at}
use Rattle.symbol.specs.Inner.{Inside}

true_false : true ≡ false → ⊥
true_false e = subst (λ (b : Bool). T b) e tt

-- a signed number as the machine reads it
pub below_zero : {x : ℤ} (b : Bool) → SFits w64 x → lt_z (to_z w64 (of_z w64 x)) (to_z w64 (of_z w64 (pos 0))) ≡ b → lt_z x (pos 0) ≡ b
below_zero b f e = simp (to_z-of_z f) at e

pub cast : (x : ℤ) → SFits w64 x → lt_z x (pos 0) ≡ false → T (non_neg (to_z w64 (of_z w64 x))) × Fits w64 (nat_abs (to_z w64 (of_z w64 x)))
cast x f l = subst (λ (z : ℤ). T (non_neg z) × Fits w64 (nat_abs z)) (sym (to_z-of_z f)) (positive x l, Fits-nat_abs tt f)
  where
    positive : (x : ℤ) → lt_z x (pos 0) ≡ false → T (non_neg x)
    positive (pos n) l = tt
    positive (negsuc n) l = absurd (true_false l)

pub whole_is : (x : ℤ) → lt_z x (pos 0) ≡ false → x ≡ pos (nat_abs x)
whole_is (pos n) l = refl
whole_is (negsuc n) l = absurd (true_false l)

mag_sub : (a b : ℕ) → mag (sub_ℕ a b) ≤ a + b
mag_sub a b = by (ltb a b) refl
  where
    by : (t : Bool) → ltb a b ≡ t → mag (cond t (negsuc (b - suc a)) (pos (a - b))) ≤ a + b
    by true e = omega arith
    by false e = omega arith

pub mag_add : (x d : ℤ) → mag (x +ℤ d) ≤ mag x + mag d + 1
mag_add (pos a) (pos b) = omega arith
mag_add (pos a) (negsuc b) = omega (arith, mag_sub a (suc b))
mag_add (negsuc a) (pos b) = omega (arith, mag_sub b (suc a))
mag_add (negsuc a) (negsuc b) = omega arith

mag_neg : (n : ℕ) → mag (neg_ℤ (pos n)) ≤ n
mag_neg zero = omega arith
mag_neg (suc n) = omega arith

pub mag_back : (x : ℤ) (n : ℕ) → mag (x -ℤ pos n) ≤ mag x + n + 1
mag_back x n = omega (arith, mag_add x (neg_ℤ (pos n)), mag_neg n)

pub mag_forth : (x : ℤ) (n : ℕ) → mag (x +ℤ pos n) ≤ mag x + n + 1
mag_forth x n = mag_add x (pos n)

pub small : (x : ℤ) → mag x < 4000 → SFits w64 x
small x h = record { sfits = omega arith }

-- a number below a thousand as a signed one
pub unsigned : (n : ℕ) → n < 1000 → to_z w64 n ≡ pos n
unsigned n h = to_z-of_z {z = pos n} (small (pos n) (omega arith))

-- a coordinate moved by a number
module _ {x : ℤ} (n : ℕ) (f : SFits w64 x) (a : mag x < 1000) (b : n < 1000) where
  pub back_is : to_z w64 (of_z w64 x) -ℤ to_z w64 n ≡ x -ℤ pos n
  back_is = simp (to_z-of_z f, unsigned n b)

  pub back_fits : SFits w64 (to_z w64 (of_z w64 x) -ℤ to_z w64 n)
  back_fits = rw back_is (small (x -ℤ pos n) (omega (arith, mag_back x n)))

  pub forth_is : to_z w64 (of_z w64 x) +ℤ to_z w64 n ≡ x +ℤ pos n
  forth_is = simp (to_z-of_z f, unsigned n b)

  pub forth_fits : SFits w64 (to_z w64 (of_z w64 x) +ℤ to_z w64 n)
  forth_fits = rw forth_is (small (x +ℤ pos n) (omega (arith, mag_forth x n)))

pub square_le : (s : ℕ) → s ≤ 189 → s * s ≤ 35721
square_le s h = mul-le-mul h h

-- the place of x and y
module _ (s : ℕ) where
  pub place_left : (x y : ℤ) → lt_z x (pos 0) ≡ true → s * s ≡ place_at s x y
  unfolding place_at
  place_left (pos x) y h = absurd (let k : x < 0 = ltb-true _ _ h in omega arith)
  place_left (negsuc x) y h = refl

  pub place_above : (x y : ℤ) → lt_z y (pos 0) ≡ true → s * s ≡ place_at s x y
  unfolding place_at
  place_above (pos x) (pos y) h = absurd (let k : y < 0 = ltb-true _ _ h in omega arith)
  place_above (pos x) (negsuc y) h = refl
  place_above (negsuc x) y h = refl

  pub place_right : (x y : ℤ) → s ≤ nat_abs x → s * s ≡ place_at s x y
  unfolding place_at
  place_right (pos x) (pos y) h = simp (le-ltb x s h)
  place_right (pos x) (negsuc y) h = refl
  place_right (negsuc x) y h = refl

  pub place_below : (x y : ℤ) → nat_abs x < s → s ≤ nat_abs y → s * s ≡ place_at s x y
  unfolding place_at
  place_below (pos x) (pos y) l h = simp (lt-ltb x s l, le-ltb y s h)
  place_below (pos x) (negsuc y) l h = refl
  place_below (negsuc x) y l h = refl

-- the place of two numbers
pub whole_in : (s x y : ℕ) → x < s → y < s → place_at s (pos x) (pos y) ≡ y * s + x
unfolding place_at
whole_in s x y l h = simp (lt-ltb x s l, lt-ltb y s h)

-- the same of signed numbers as the machine reads them
module _ (s : ℕ) (x y : ℤ) (f : SFits w64 x) (g : SFits w64 y) where
  pub right_of : s ≤ nat_abs (to_z w64 (of_z w64 x)) → s * s ≡ place_at s x y
  right_of h = place_right s x y (simp (to_z-of_z f) at h)

  pub under : nat_abs (to_z w64 (of_z w64 x)) < s → s ≤ nat_abs (to_z w64 (of_z w64 y)) → s * s ≡ place_at s x y
  under l h = place_below s x y (simp (to_z-of_z f) at l) (simp (to_z-of_z g) at h)

-- what is said of signed numbers as the machine reads them, of the numbers
pub read : {A : Type 0} (F : ℤ → A) {x : ℤ} → SFits w64 x → F (to_z w64 (of_z w64 x)) ≡ F x
read F f = ap F (to_z-of_z f)

-- the range of a call's result
pub ok : (x : ℤ) → mag x < 2 ^ 63 → SFits w64 x
ok x h = record { sfits = h }

pub near : {x : ℤ} (n : ℕ) → SFits w64 x → mag x < n → mag (to_z w64 (of_z w64 x)) < n
near n f h = subst (λ (z : ℤ). mag z < n) (sym (to_z-of_z f)) h

-- a further number taken off
pub take_off : (a b c : ℕ) → pos a -ℤ pos b -ℤ pos c ≡ pos a -ℤ pos (b + c)
take_off a b c = +ℤ_assoc (pos a) (neg_ℤ (pos b)) (neg_ℤ (pos c)) ∙ ap (λ (z : ℤ). pos a +ℤ z) (sym (neg_ℤ-+ℤ (pos b) (pos c)))

-- a coordinate moved to the left stays inside or leaves the square
pub difference : (a b : ℕ) → b ≤ a → pos a -ℤ pos b ≡ pos (a - b)
difference a zero h = let e : a + 0 ≡ a - 0 = omega arith in ap pos e
difference a (suc b) h = simp (le-ltb a (suc b) h)

pub negative : (a b : ℕ) → a < b → lt_z (pos a -ℤ pos b) (pos 0) ≡ true
negative a zero h = absurd (omega arith)
negative a (suc b) h = simp (lt-ltb a (suc b) h)

-- a coordinate of the square
pub inside_of : {s n : ℕ} {z : ℤ} → z ≡ pos n → n < s → Inside s z
inside_of {s} e h = subst (λ (z : ℤ). Inside s z) (sym e) (record { whole = refl; within = h })

pub inside_call : {s : ℕ} {x : ℤ} → mag x < 2 ^ 63 → Inside s x → Inside s (to_z w64 (of_z w64 x))
inside_call {s} {x} h i = subst (λ (z : ℤ). Inside s z) (sym (to_z-of_z (ok x h))) i

pub inside_number : {s : ℕ} (n : ℕ) → n < s → s ≤ 189 → Inside s (to_z w64 n)
inside_number n h k = inside_of (unsigned n (omega arith)) h

module _ {s : ℕ} {x : ℤ} (f : SFits w64 x) (i : Inside s x) where
  pub inside : Inside s (to_z w64 (of_z w64 x))
  inside = subst (λ (z : ℤ). Inside s z) (sym (to_z-of_z f)) i

  pub cast_inside : s ≤ 189 → T (non_neg (to_z w64 (of_z w64 x))) × Fits w64 (nat_abs (to_z w64 (of_z w64 x)))
  cast_inside h = (subst (λ (z : ℤ). T (non_neg z)) (sym inside.whole) tt, omega (arith, inside.within))

  pub near_inside : s ≤ 189 → mag (to_z w64 (of_z w64 x)) < 200
  near_inside h = subst (λ (z : ℤ). mag z < 200) (sym inside.whole) (omega (arith, inside.within))
