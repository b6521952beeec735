-- Lists by a rule, and the lowest number that passes a test: words in which definitions of several crates are written.
use Rattle.std.specs.Prelude.{Bool, true, cond, ◌&&◌, ℕ, zero, suc}
use mathlib.Core.List.{List, [], ◌++◌, foldr}

-- f 0, f 1, .. f (n − 1), one behind the other
unfoldable pub each : {A : Type 0} → ℕ → (ℕ → List A) → List A
each zero f = []
each (suc n) f = each n f ++ f n

-- every element passes a test
abbrev pub all : {A : Type 0} → (A → Bool) → List A → Bool
all test xs = foldr (λ x r. test x && r) true xs

-- the lowest of the n numbers from k on that passes a test, or k + n if none does
unfoldable pub lowest : (ℕ → Bool) → ℕ → ℕ → ℕ
lowest test zero k = k
lowest test (suc n) k = cond (test k) k (lowest test n (suc k))
