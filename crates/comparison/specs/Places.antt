-- What the exported search for error places answers.
use Rattle.std.specs.Prelude.{cond, ◌&&◌, List, ℕ, leb, eqb, length}
use Rattle.general.specs.Each.{table}
use Rattle.reed_solomon.specs.Places.{locator_at}

pub record Searched : Type 0 where
  pub number : ℕ
  pub values : List ℕ

abbrev pub searched : ℕ → List ℕ → Searched
searched n e = record { number = n; values = e }

-- the values of the locator f of length l at as many degrees as e has bytes; or 2, and e as it was
unfoldable pub search_of : List ℕ → ℕ → List ℕ → Searched
search_of f l e =
    cond (eqb (length f) 256 && (leb l 255 && leb (length e) 256)) (searched 0 (table (length e) (locator_at 0x163 f l))) (searched 2 e)
