-- Laws of `bit_xor` that lib.Bits lacks: it associates, and the count of ones of it is a distance.
use mathlib.Core.Path.{◌≡◌, refl, sym, ap, ap₂, ◌∙◌}
use Prim.Native.Nat.{ℕ, zero, suc, ◌+◌, ◌*◌, ◌/◌, ◌%◌, ◌<◌, ◌≤◌}
use native.Mathlib.Nat.{mod-lt, not-suc-le-zero, le_of_suc-le-suc}
use native.Mathlib.Omega.{arith}
use lib.Dec.{lit<}
use lib.Arith.{bin_ind, digits_div, digits_mod}
use lib.Bits.{bit_xor, differ, xor_step, xor_zero_l, xor_self}
use lib.Count.{ones, ones_step}

digit : (n : ℕ) → n % 2 < 2
digit n = mod-lt n (lit< tt)

differ_lt : (x y : ℕ) → x < 2 → y < 2 → differ x y < 2
differ_lt zero y h g = g
differ_lt (suc zero) zero h g = lit< tt
differ_lt (suc zero) (suc zero) h g = lit< tt
differ_lt (suc zero) (suc (suc y)) h g = absurd (not-suc-le-zero (le_of_suc-le-suc (le_of_suc-le-suc g)))
differ_lt (suc (suc x)) y h g = absurd (not-suc-le-zero (le_of_suc-le-suc (le_of_suc-le-suc h)))

differ_assoc : (x y z : ℕ) → x < 2 → y < 2 → z < 2 → differ (differ x y) z ≡ differ x (differ y z)
differ_assoc zero y z h g k = refl
differ_assoc (suc zero) zero z h g k = refl
differ_assoc (suc zero) (suc zero) zero h g k = refl
differ_assoc (suc zero) (suc zero) (suc zero) h g k = refl
differ_assoc (suc zero) (suc zero) (suc (suc z)) h g k = absurd (not-suc-le-zero (le_of_suc-le-suc (le_of_suc-le-suc k)))
differ_assoc (suc zero) (suc (suc y)) z h g k = absurd (not-suc-le-zero (le_of_suc-le-suc (le_of_suc-le-suc g)))
differ_assoc (suc (suc x)) y z h g k = absurd (not-suc-le-zero (le_of_suc-le-suc (le_of_suc-le-suc h)))

-- the digits of a xor
pub xor_half : (a b : ℕ) → bit_xor a b / 2 ≡ bit_xor (a / 2) (b / 2)
xor_half a b = ap (λ (n : ℕ). n / 2) (xor_step a b) ∙ digits_div (bit_xor (a / 2) (b / 2)) (differ_lt (a % 2) (b % 2) (digit a) (digit b))

pub xor_odd : (a b : ℕ) → bit_xor a b % 2 ≡ differ (a % 2) (b % 2)
xor_odd a b = ap (λ (n : ℕ). n % 2) (xor_step a b) ∙ digits_mod (bit_xor (a / 2) (b / 2)) (differ_lt (a % 2) (b % 2) (digit a) (digit b))

pub xor_assoc : (a b c : ℕ) → bit_xor (bit_xor a b) c ≡ bit_xor a (bit_xor b c)
xor_assoc =
    bin_ind (λ (n : ℕ). (b c : ℕ) → bit_xor (bit_xor n b) c ≡ bit_xor n (bit_xor b c))
    (λ b c. ap (λ (x : ℕ). bit_xor x c) (xor_zero_l b) ∙ sym (xor_zero_l (bit_xor b c))) (λ n ih b c.
    xor_step (bit_xor n b) c
    ∙ ap₂ (λ (x y : ℕ). x * 2 + y)
    (ap (λ (x : ℕ). bit_xor x (c / 2)) (xor_half n b) ∙ ih (b / 2) (c / 2) ∙ sym (ap (λ (x : ℕ). bit_xor (n / 2) x) (xor_half b c)))
    (ap (λ (x : ℕ). differ x (c % 2)) (xor_odd n b) ∙ differ_assoc (n % 2) (b % 2) (c % 2) (digit n) (digit b) (digit c)
    ∙ sym (ap (λ (x : ℕ). differ (n % 2) x) (xor_odd b c)))
    ∙ sym (xor_step n (bit_xor b c)))

differ_le : (x y : ℕ) → differ x y ≤ x + y
differ_le zero y = omega arith
differ_le (suc x) zero = omega arith
differ_le (suc x) (suc y) = omega (arith, differ_le x y)

pub ones_xor_le : (a b : ℕ) → ones (bit_xor a b) ≤ ones a + ones b
ones_xor_le = bin_ind (λ (n : ℕ). (b : ℕ) → ones (bit_xor n b) ≤ ones n + ones b) (λ b. rw (xor_zero_l) (omega arith)) (λ n ih b.
    let e : ones (bit_xor n b) ≡ differ (n % 2) (b % 2) + ones (bit_xor (n / 2) (b / 2)) =
    ones_step (bit_xor n b) ∙ ap₂ (λ (x y : ℕ). x + ones y) (xor_odd n b) (xor_half n b) in
    omega (arith, ih (b / 2), differ_le (n % 2) (b % 2), ones_step n, ones_step b))

-- the distance between two words, through a third
pub triangle : (a b c : ℕ) → ones (bit_xor a c) ≤ ones (bit_xor a b) + ones (bit_xor b c)
triangle a b c =
    let e : bit_xor a c ≡ bit_xor (bit_xor a b) (bit_xor b c) =
    sym (xor_assoc a b (bit_xor b c) ∙ ap (λ (x : ℕ). bit_xor a x) (sym (xor_assoc b b c) ∙ ap (λ (x : ℕ). bit_xor x c) (xor_self b) ∙ xor_zero_l c)) in
    rw e (ones_xor_le (bit_xor a b) (bit_xor b c))
