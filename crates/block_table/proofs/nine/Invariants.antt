use Rattle.general.proofs.Names.{length, get_or, ℕ, ◌+◌, ◌-◌, ◌<◌, ◌≤◌, ◌≡◌}
use Rattle.block_table.proofs.nine.Given as goal

abbrev pub invariant-loop-n : goal.invariant-loop-n
invariant-loop-n l = (l.n ≤ 9) × (length l.row ≡ 9) × ((k : ℕ) → k < l.n → get_or l.row k 0 ≡ get_or l.table (l.at + k) 0)

abbrev pub decreases-loop-n : goal.decreases-loop-n
decreases-loop-n l = 9 - l.n
