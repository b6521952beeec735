-- The table by which the code multiplies. It belongs to the code: nothing here says what a mark means.
use Rattle.std.specs.Prelude.{◌≡◌, List, ◌++◌, ℕ, zero, suc, ◌+◌, T, get_or, replicate}
use Rattle.general.specs.Each.{table}
use Rattle.field.specs.Field.{powers, log, order_test}

-- where a logarithm stands; zero has none, and gets a number so large that the powers behind it are zeros
unfoldable pub log_entry : ℕ → ℕ → ℕ
log_entry poly zero = 510
log_entry poly (suc a) = log poly (suc a)

-- 256 logarithms, then α^0 to α^509, then zeros: the product of a and b stands at 256 + the sum of their two logarithms
unfoldable pub table_of : ℕ → List ℕ
table_of poly = table 256 (log_entry poly) ++ (powers poly 510 1 ++ replicate 514 0)

-- the polynomial of a table: x^8 and what α^8 is
abbrev pub poly_of : List ℕ → ℕ
poly_of t = 256 + get_or t 264 0

-- t is the table of a field
pub record Field (t : List ℕ) : Type 0 where
  pub test : T (order_test (poly_of t))
  pub is : t ≡ table_of (poly_of t)
