-- What inner functions say of each other. Nobody has to believe it: the contract of the operation does not cite it.
use Rattle.std.specs.Prelude.{◌≡◌, List, [], ◌++◌, ℕ, suc, ◌+◌, ◌-◌, ◌<◌}
use Rattle.std.proofs.Math.Logic.{ite}
use Rattle.std.proofs.Math.Option.{Option, get_or}
use Rattle.std.proofs.Math.Decide.{dec_lt}
use Rattle.field.specs.Field.{power}
use Rattle.reed_solomon.specs.Sum.{seq, horner}
use Rattle.reed_solomon.specs.Register.{Tail}

-- data followed by their parity
abbrev pub with_parity : List ℕ → Option (List ℕ) → List ℕ
with_parity ds p = ds ++ get_or p []

-- a polynomial of degree n, highest coefficient first, which is 1; zeros behind it
pub record Monic (n : ℕ) (g : ℕ → ℕ) : Type 0 where
  pub unit : g 0 ≡ 1
  pub tail : Tail g n

-- the product of x + α^(first + j) for j < n: of degree n, and zero at each α^(first + j)
pub record Generator (poly first n : ℕ) (g : ℕ → ℕ) : Type 0 where
  pub monic : Monic n g
  pub roots : (j : ℕ) → j < n → horner poly g (power poly (first + j)) (suc n) ≡ 0

-- what is left of the n coefficients w after i steps of the division by g of degree d: the first i are zero, and the value is the same
-- wherever g is zero
pub record Divided (poly d : ℕ) (g : ℕ → ℕ) (n i : ℕ) (w w' : ℕ → ℕ) : Type 0 where
  pub bytes : (j : ℕ) → w' j < 256
  pub front : (j : ℕ) → j < i → w' j ≡ 0
  pub same : (x : ℕ) → horner poly g x (suc d) ≡ 0 → horner poly w' x n ≡ horner poly w x n

-- what src has at the place i, from the place k on
unfoldable pub copied_from : ℕ → List ℕ → ℕ → ℕ → ℕ
copied_from k src i x = ite (dec_lt i k) x (seq src i)

-- what src has at the place i - k, from the place k on
unfoldable pub behind_of : ℕ → List ℕ → ℕ → ℕ → ℕ
behind_of k src i x = ite (dec_lt i k) x (seq src (i - k))
