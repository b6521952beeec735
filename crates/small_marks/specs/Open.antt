-- What the functions of this crate say of each other. Nobody has to believe it.
use Rattle.std.specs.Prelude.{◌≡◌, ◌≢◌, ◌⊎◌, List, ℕ, ◌+◌, ◌*◌, ◌<◌, ◌≤◌, length, get_or}
use Rattle.placement.specs.Walk.{ReadsColumns}
use Rattle.placement.specs.declared.Run.{Run}

-- from one column of a row to another, for all kinds by which the modules from the one column on and before the other are data
pub record Spans (sq row out out' : List ℕ) (r s : Run) : Type 0 where
  pub go : (ks : List ℕ) → length sq ≡ length ks → ((k : ℕ) → r.column ≤ k → k < s.column → get_or ks k 0 ≡ 0) → ReadsColumns ks sq row out out' r s

-- the first nine and the last nine rows have data in the other columns than the first nine and the last nine, all other rows in all columns
pub record Open (s : ℕ) (ks : List ℕ) : Type 0 where
  pub size : length ks ≡ s * s
  pub rows : (r c : ℕ) → 9 ≤ r → r + 9 < s → c < s → get_or ks (r * s + c) 0 ≡ 0
  pub columns : (r c : ℕ) → r < s → 9 ≤ c → c + 9 < s → get_or ks (r * s + c) 0 ≡ 0
  pub corners : (r c : ℕ) → r < s → c < s → (r < 9) ⊎ (s ≤ r + 9) → (c < 9) ⊎ (s ≤ c + 9) → get_or ks (r * s + c) 0 ≢ 0

-- how many modules at either end of row r of such a layout are no data
pub data Margin (s r : ℕ) : ℕ → Type 0 where
  whole : 9 ≤ r → r + 9 < s → Margin s r 0
  ends : (r < 9) ⊎ (s ≤ r + 9) → Margin s r 9
