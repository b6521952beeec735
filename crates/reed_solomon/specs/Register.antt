-- Shift registers: which sequence a register makes, and the step of Berlekamp and Massey's algorithm.
use Rattle.std.specs.Prelude.{◌≡◌, ℕ, suc, ◌+◌, ◌-◌, ◌≤◌, ◌<◌}
use Rattle.std.proofs.Math.Logic.{ite}
use Rattle.std.proofs.Math.Decide.{dec_le}
use Rattle.field.specs.Field.{mul}
use Rattle.reed_solomon.specs.Sum.{◌⊕◌, sum}

-- by how much the register f of length l misses s at x (reed_solomon.rs: the discrepancy)
unfoldable pub discrepancy : ℕ → (ℕ → ℕ) → (ℕ → ℕ) → ℕ → ℕ → ℕ
discrepancy poly s f l x = sum (λ i. mul poly (f i) (s (x - i))) (suc l)

-- f of length l makes the first r values of s: from the place l on it misses none
unfoldable pub Generates : ℕ → (ℕ → ℕ) → ℕ → (ℕ → ℕ) → ℕ → Type 0
Generates poly s r f l = (x : ℕ) → l ≤ x → x < r → discrepancy poly s f l x ≡ 0

-- f is zero past l
unfoldable pub Tail : (ℕ → ℕ) → ℕ → Type 0
Tail f l = (i : ℕ) → l < i → f i ≡ 0

-- g moved up by m places
unfoldable pub moved : ℕ → (ℕ → ℕ) → ℕ → ℕ
moved m g i = ite (dec_le m i) (g (i - m)) 0

-- f plus q times g moved up by m places
unfoldable pub stepped : ℕ → ℕ → ℕ → (ℕ → ℕ) → (ℕ → ℕ) → ℕ → ℕ
stepped poly q m f g i = f i ⊕ mul poly q (moved m g i)

-- What holds after r values of s: f of length l makes them; g of length lg is f as it was before its length last grew, when rg values
-- were read, and missed the last of them by b. At the start rg is 0.
pub record State (poly : ℕ) (s : ℕ → ℕ) (r l : ℕ) (f : ℕ → ℕ) (rg lg : ℕ) (g : ℕ → ℕ) (b : ℕ) : Type 0 where
  pub f_tail : Tail f l
  pub f_makes : Generates poly s r f l
  pub g_tail : Tail g lg
  pub g_makes : (x : ℕ) → lg ≤ x → suc x < rg → discrepancy poly s g lg x ≡ 0
  pub g_miss : (x : ℕ) → suc x ≡ rg → discrepancy poly s g lg x ≡ b
  pub lens : l + lg ≡ rg
  pub before : rg ≤ r
