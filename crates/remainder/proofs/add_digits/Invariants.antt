use Rattle.general.proofs.Names.{◌≡◌, ℕ, ◌-◌, ◌*◌, ◌%◌, ◌^◌, ◌≤◌, bit_xor}
use Rattle.remainder.specs.Words.{digits, behind, Rows}
use Rattle.remainder.proofs.add_digits.Given as goal

abbrev pub invariant-loop-i : goal.invariant-loop-i
invariant-loop-i l = (l.i ≤ 8) × ((poly x e h : ℕ) → Rows poly x l.t → behind poly x (digits poly x e 4 h) l.initial.n ≡ 0 → behind poly x (digits poly x e 4 (bit_xor h (l.x % 2 ^ (4 * l.i)))) l.n ≡ 0)

abbrev pub decreases-loop-i : goal.decreases-loop-i
decreases-loop-i l = 8 - l.i
