-- A test that antt computes at every number below n, and what it says of each.
use mathlib.Core.Path.{◌≡◌, refl, subst, sym}
use mathlib.Core.Bool.{Bool, true, false, ◌&&◌}
use Prim.Native.Nat.{ℕ, zero, suc, ◌<◌}
use native.Mathlib.Nat.{not-suc-le-zero, le_of_suc-le-suc}
use lib.Arith.{lt_of_le-ne}
use lib.Dec.{T, eqb}
use borrow.Author.Tests.{eqb-true, eqb-false}

pub and_left : (a b : Bool) → T (a && b) → T a
and_left true b t = tt
and_left false b t = t

pub and_right : (a b : Bool) → T (a && b) → T b
and_right true b t = t
and_right false b t = absurd t

abbrev pub up_to : (ℕ → Bool) → ℕ → Bool
up_to f zero = true
up_to f (suc n) = f n && up_to f n

below : (k n : ℕ) → k < suc n → (k ≡ n → ⊥) → k < n
below k n h ne = lt_of_le-ne (le_of_suc-le-suc h) ne

pub every : (f : ℕ → Bool) (n : ℕ) → T (up_to f n) → (k : ℕ) → k < n → T (f k)
every f zero t k h = absurd (not-suc-le-zero h)
every f (suc n) t k h = by (eqb k n) refl (λ l. every f n (and_right (f n) (up_to f n) t) k l)
  where
    by : (b : Bool) → eqb k n ≡ b → (k < n → T (f k)) → T (f k)
    by true e r = subst (λ (m : ℕ). T (f m)) (sym (eqb-true k n e)) (and_left (f n) (up_to f n) t)
    by false e r = r (below k n h (eqb-false k n e))
