-- The four masks, as the code tells them apart.
use Rattle.general.proofs.Names.{◌≡◌, refl, sym, ap, ◌≢◌, ℕ, zero, suc, ◌+◌, ◌-◌, ◌/◌, ◌%◌, ◌<◌, arith}
use Rattle.codewords.specs.Codewords.{mask_at, mask_bit}

pub mask_zero : (k i j : ℕ) → k ≡ 0 → 0 ≡ mask_at k i j
unfolding mask_at
mask_zero k i j e = ap (λ (x : ℕ). mask_at x i j) (sym e)

pub mask_one : (k i j : ℕ) → k ≡ 1 → 1 - (i + j) % 2 ≡ mask_at k i j
unfolding mask_at
mask_one k i j e = ap (λ (x : ℕ). mask_at x i j) (sym e)

pub mask_two : (k i j : ℕ) → k ≡ 2 → 1 - ((i + j) % 3 + j % 3) % 2 ≡ mask_at k i j
unfolding mask_at
mask_two k i j e = ap (λ (x : ℕ). mask_at x i j) (sym e)

pub mask_three : (k i j : ℕ) → k ≢ 0 → k ≢ 1 → k ≢ 2 → 1 - (i % j + j % i + i % 3 + j % 3) % 2 ≡ mask_at k i j
unfolding mask_at
mask_three zero i j a b c = absurd (a refl)
mask_three (suc zero) i j a b c = absurd (b refl)
mask_three (suc (suc zero)) i j a b c = absurd (c refl)
mask_three (suc (suc (suc k))) i j a b c = refl

pub mask_lt : (mask i j : ℕ) → mask_at mask i j < 2
unfolding mask_at
mask_lt zero i j = omega arith
mask_lt (suc zero) i j = omega arith
mask_lt (suc (suc zero)) i j = omega arith
mask_lt (suc (suc (suc mask))) i j = omega arith

pub mask_bit_lt : (side mask at : ℕ) → mask_bit side mask at < 2
unfolding mask_bit
mask_bit_lt side mask at = mask_lt mask (at / side + 1) (at % side + 1)
