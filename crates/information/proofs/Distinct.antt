-- The 68 places are distinct, and lie inside.
use Rattle.general.proofs.Names.{◌≡◌, refl, sym, ap, subst, ◌∙◌, Bool, true, false, cond, ℕ, ◌+◌, ◌-◌, ◌*◌, ◌/◌, ◌%◌, ◌<◌, ◌≤◌, mul-le-mul, arith, ltb}
use Rattle.general.proofs.Names.{ltb-true, ltb-false}
use lib.Arith.{digits_div, digits_mod, digits_lt}
use Rattle.information.specs.Information.{position_row, position_column, info_position}

-- the arm that a place lies in
pub data Arm (s n : ℕ) : ℕ → ℕ → Type 0 where
  west : n < 9 → Arm s n 8 n
  north : 9 ≤ n → n < 17 → Arm s n (16 - n) 8
  east : 17 ≤ n → n < 26 → Arm s n (n - 17) (s - 9)
  south : 26 ≤ n → Arm s n 8 (s - 9 + (n - 25))

pub arm : (s n : ℕ) → Arm s n (position_row n) (position_column s n)
unfolding position_row position_column
arm s n = one (ltb n 9) refl
  where
    three : (b : Bool) → 17 ≤ n → ltb n 26 ≡ b → Arm s n (cond b (n - 17) 8) (cond b (s - 9) (s - 9 + (n - 25)))
    three true h e = east h (ltb-true n 26 e)
    three false h e = south (ltb-false n 26 e)

    two : (b : Bool) → 9 ≤ n → ltb n 17 ≡ b → Arm s n (cond b (16 - n) (cond (ltb n 26) (n - 17) 8)) (cond b 8 (cond (ltb n 26) (s - 9) (s - 9 + (n - 25))))
    two true h e = north h (ltb-true n 17 e)
    two false h e = three (ltb n 26) (ltb-false n 17 e) refl

    one : (b : Bool) → ltb n 9 ≡ b
        → Arm s n (cond b 8 (cond (ltb n 17) (16 - n) (cond (ltb n 26) (n - 17) 8))) (cond b n (cond (ltb n 17) 8 (cond (ltb n 26) (s - 9) (s - 9 + (n - 25)))))
    one true e = west (ltb-true n 9 e)
    one false e = two (ltb n 17) (ltb-false n 9 e) refl

module _ (s : ℕ) (big : 23 ≤ s) where
  pub row_lt : (n : ℕ) → position_row n < 9
  row_lt n = go (arm s n)
    where
      go : {r c : ℕ} → Arm s n r c → r < 9
      go (west a) = omega arith
      go (north a b) = omega arith
      go (east a b) = omega arith
      go (south a) = omega arith

  pub column_lt : (n : ℕ) → n < 34 → position_column s n < s
  column_lt n h = go (arm s n)
    where
      go : {r c : ℕ} → Arm s n r c → c < s
      go (west a) = omega arith
      go (north a b) = omega arith
      go (east a b) = omega arith
      go (south a) = omega arith

  -- row and column tell the place
  same_place : (n m : ℕ) → n < 34 → m < 34 → position_row n ≡ position_row m → position_column s n ≡ position_column s m → n ≡ m
  same_place n m h g = go (arm s n) (arm s m)
    where
      go : {r c r' c' : ℕ} → Arm s n r c → Arm s m r' c' → r ≡ r' → c ≡ c' → n ≡ m
      go (west a) (west b) p q = omega arith
      go (west a) (north b d) p q = omega arith
      go (west a) (east b d) p q = omega arith
      go (west a) (south b) p q = omega arith
      go (north a e) (west b) p q = omega arith
      go (north a e) (north b d) p q = omega arith
      go (north a e) (east b d) p q = omega arith
      go (north a e) (south b) p q = omega arith
      go (east a e) (west b) p q = omega arith
      go (east a e) (north b d) p q = omega arith
      go (east a e) (east b d) p q = omega arith
      go (east a e) (south b) p q = omega arith
      go (south a) (west b) p q = omega arith
      go (south a) (north b d) p q = omega arith
      go (south a) (east b d) p q = omega arith
      go (south a) (south b) p q = omega arith

  first_place : ℕ → ℕ
  first_place n = position_row n * s + position_column s n

  -- the first copy lies in the upper nine rows, and those are less than half
  first_place_lt : (n : ℕ) → n < 34 → first_place n < 9 * s
  unfolding first_place
  first_place_lt n h = digits_lt (row_lt n) (column_lt n h)

  half : 9 * s + 9 * s ≤ s * s
  half =
      subst (λ (k : ℕ). k ≤ s * s) (let e : 18 * s ≡ 9 * s + 9 * s = omega arith in e)
      (mul-le-mul (let e : 18 ≤ s = omega arith in e) (let e : s ≤ s = omega arith in e))

  first_place_same : (n m : ℕ) → n < 34 → m < 34 → first_place n ≡ first_place m → n ≡ m
  unfolding first_place
  first_place_same n m h g e =
      same_place n m h g
      (sym (digits_div (position_row n) (column_lt n h)) ∙ ap (λ (k : ℕ). k / s) e ∙ digits_div (position_row m) (column_lt m g))
      (sym (digits_mod (position_row n) (column_lt n h)) ∙ ap (λ (k : ℕ). k % s) e ∙ digits_mod (position_row m) (column_lt m g))

  pub place_lt : (b : Bool) (n : ℕ) → n < 34 → info_position s b n < s * s
  unfolding info_position first_place
  place_lt false n h = omega (arith, first_place_lt n h, half)
  place_lt true n h = omega (arith, first_place_lt n h, half)

  pub place_same : (b : Bool) (n m : ℕ) → n < 34 → m < 34 → info_position s b n ≡ info_position s b m → n ≡ m
  unfolding info_position first_place
  place_same false n m h g e = first_place_same n m h g e
  place_same true n m h g e = first_place_same n m h g (omega (arith, first_place_lt n h, first_place_lt m g, half))

  pub place_other : (n m : ℕ) → n < 34 → m < 34 → info_position s false n ≡ info_position s true m → ⊥
  unfolding info_position first_place
  place_other n m h g e = omega (arith, first_place_lt n h, first_place_lt m g, half)
