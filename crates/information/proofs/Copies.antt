-- What the functions on information modules need of numbers.
use Rattle.general.proofs.Names.{◌≡◌, refl, sym, ap, ap₂, subst, ◌∙◌, Bool, true, false, List, [], ◌∷◌, ℕ, zero, suc, ◌+◌, ◌-◌, ◌*◌, ◌^◌, ◌<◌, ◌≤◌, mul-le-mul}
use Rattle.general.proofs.Names.{pow-suc, add-one, arith, lit<, get_or, set, ◌%◌}
use lib.Pow.{pow_mono}
use Rattle.information.specs.Information.{position_row, position_column, info_position}
use Rattle.information.specs.Inner.{ArmWritten, lowest, number_from, bit_of, stored, bits_written, copy_written}
use Rattle.information.proofs.Read.{copy_written_lem}
use Rattle.information.proofs.Distinct.{row_lt, place_lt}

module _ (s n : ℕ) (big : 23 ≤ s) (hi : s ≤ 189) (h : n < 34) {r : ℕ} (d : r ≡ position_row n) where
  pub row_fits : r * s ≤ 1701
  row_fits = mul-le-mul (let e : r ≤ 9 = omega (arith, row_lt s big n) in e) hi

  module _ {c : ℕ} (e : c ≡ position_column s n) where
    pub first_is : r * s + c ≡ info_position s false n
    unfolding info_position
    first_is = ap₂ (λ (x y : ℕ). x * s + y) d e

    pub second_is : s * s - 1 - (r * s + c) ≡ info_position s true n
    unfolding info_position
    second_is = ap (λ (k : ℕ). s * s - 1 - k) (ap₂ (λ (x y : ℕ). x * s + y) d e)

    pub first_lt : r * s + c < s * s
    first_lt = subst (λ (k : ℕ). k < s * s) (sym first_is) (place_lt s big false n h)

-- the lowest bit of a byte, and that it is one
pub lowest_at : (g : List ℕ) (i : ℕ) → get_or g i 0 % 2 ≡ get_or (lowest g) i 0
lowest_at [] i = refl
lowest_at (m ∷ g) zero = refl
lowest_at (m ∷ g) (suc i) = lowest_at g i

pub lowest_lt : (g : List ℕ) (i : ℕ) → get_or (lowest g) i 0 < 2
lowest_lt g i = omega (arith, lowest_at g i)

number_lt : (f : ℕ → ℕ) → ((k : ℕ) → f k < 2) → (n : ℕ) → number_from f n < 2 ^ n
unfolding number_from
number_lt f b zero = lit< tt
number_lt f b (suc n) = omega (arith, number_lt f b n, b n, pow-suc 2 n)

pub number_small : (f : ℕ → ℕ) → ((k : ℕ) → f k < 2) → (n : ℕ) → n ≤ 34 → number_from f n < 17179869184
number_small f b n h = omega (arith, number_lt f b n, pow_mono {i = n} {j = 34} h)

pub number_more : (f : ℕ → ℕ) (n : ℕ) {w x : ℕ} → w ≡ number_from f n → x ≡ f n → w * 2 + x ≡ number_from f (n + 1)
unfolding number_from
number_more f n e d = ap₂ (λ (a b : ℕ). a * 2 + b) e d ∙ ap (number_from f) (sym (add-one n))

pub write_more : (s : ℕ) (b : Bool) (w n : ℕ) (g₀ : List ℕ) {g : List ℕ} {i x : ℕ} → g ≡ bits_written s b w n g₀ → i ≡ info_position s b n → x ≡ bit_of w n
    → set g i x ≡ bits_written s b w (n + 1) g₀
unfolding stored
write_more s b w n g₀ {g} {i} {x} e d f =
    ap (λ (l : List ℕ). set l i x) e ∙ ap₂ (λ (j y : ℕ). set (bits_written s b w n g₀) j y) d f ∙ ap (λ (m : ℕ). bits_written s b w m g₀) (sym (add-one n))

-- by the flag of a copy
pub by_copy : (s n i : ℕ) (b t : Bool) → b ≡ t → i ≡ info_position s t n → i ≡ info_position s b n
by_copy s n i b t e d = d ∙ ap (λ (c : Bool). info_position s c n) (sym e)

-- one arm after another, and all of them
pub arm_next : {s : ℕ} {second : Bool} {w a b c : ℕ} {g g' g'' : List ℕ} → ArmWritten s second w a b g g' → ArmWritten s second w b c g' g''
    → ArmWritten s second w a c g g''
arm_next x y = record { is = λ h e. y.is h (x.is h e) }

pub arms_all : {s : ℕ} {second : Bool} {w : ℕ} {g g' : List ℕ} → ArmWritten s second w 0 34 g g' → g' ≡ copy_written s second w g
unfolding stored
arms_all {s} {second} {w} {g} x = x.is g refl ∙ sym (copy_written_lem s second w g)
