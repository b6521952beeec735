use Rattle.general.proofs.Names.{◌≡◌, ◌≤◌, ◌*◌, ◌-◌, length}
use Rattle.segments.proofs.Steps.{Parsing}
use Rattle.parse.proofs.parse.Given as goal

abbrev pub invariant-loop-mode : goal.invariant-loop-mode
invariant-loop-mode l = (length l.out ≡ length l.initial.out) × (length l.script ≡ length l.initial.script) × (l.at ≤ 8 * length l.s) × (l.n ≤ l.at) × (l.m ≤ l.at) × Parsing l.s l.initial.out l.initial.script l.at l.n l.m l.out l.script

abbrev pub decreases-loop-mode : goal.decreases-loop-mode
decreases-loop-mode l = 8 * length l.s - l.at
