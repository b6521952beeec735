-- What holds whatever a test says, and of choices by a test; and a number that is 0 and 1 at once. Assumes nothing.
use Rattle.general.proofs.Names.{◌≡◌, refl, Bool, true, false, cond, ℕ, ◌<◌, ◌≤◌, ltb, ltb-true, ltb-false, arith}

pub never : {A : Type 0} → ◌≡◌ {A = ℕ} 0 1 → A
never z = absurd (omega arith)

-- what holds whatever a test says
pub tested : {A : Type 0} (b : Bool) → (b ≡ true → A) → (b ≡ false → A) → A
tested true f g = f refl
tested false f g = g refl

-- what both sides of a choice have, with what the test says there, the choice has
pub chosen : {A : Type 0} (P : A → Type 0) (b : Bool) {x y : A} → (b ≡ true → P x) → (b ≡ false → P y) → P (cond b x y)
chosen P true f g = f refl
chosen P false f g = g refl

pub chosen_less : {A : Type 0} (P : A → Type 0) (m n : ℕ) {x y : A} → (m < n → P x) → (n ≤ m → P y) → P (cond (ltb m n) x y)
chosen_less P m n f g = chosen P (ltb m n) (λ e. f (ltb-true m n e)) (λ e. g (ltb-false m n e))
