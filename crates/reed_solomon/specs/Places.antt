-- SPECIFICATION 3.12: the search for error places. A locator of length l has the coefficients f 0 .. f l, f 0 the highest; the place of degree d
-- stands for α^d.
use Rattle.std.specs.Prelude.{List, ℕ, zero, suc, ◌-◌}
use Rattle.field.specs.Field.{power, mul}
use Rattle.reed_solomon.specs.Sum.{seq, horner}

-- the value of the locator f of length l at the place of degree d
abbrev pub locator_at : ℕ → List ℕ → ℕ → ℕ → ℕ
locator_at poly f l d = horner poly (seq f) (power poly d) (suc l)

-- the term x, d places further: from each place to the next it is multiplied by its own fixed power, α^n
unfoldable pub carried : ℕ → ℕ → ℕ → ℕ → ℕ
carried poly n zero x = x
carried poly n (suc d) x = mul poly (carried poly n d x) (power poly n)

-- the term i of that locator at the place of degree d: its coefficient, carried there from degree 0
abbrev pub term_at : ℕ → List ℕ → ℕ → ℕ → ℕ → ℕ
term_at poly f l d i = carried poly (l - i) d (seq f i)
