-- Lists given by a value for each place, and loops that replace the elements of an array one after the other. Nobody has to believe it.
use Rattle.std.specs.Prelude.{◌≡◌, List, [], ◌∷◌, ℕ, ◌≤◌, ◌<◌, length, get_or}
use Rattle.general.specs.Lists.{each}

-- f 0, f 1, ..: n of them
abbrev pub table : ℕ → (ℕ → ℕ) → List ℕ
table n f = each n (λ i. f i ∷ [])

-- the first n of s, each replaced by F of its place and itself; the rest as it was
pub record Each (F : ℕ → ℕ → ℕ) (n : ℕ) (s s' : List ℕ) : Type 0 where
  pub size : length s' ≡ length s
  pub done : (i : ℕ) → i < n → get_or s' i 0 ≡ F i (get_or s i 0)
  pub rest : (i : ℕ) → n ≤ i → get_or s' i 0 ≡ get_or s i 0
