use Rattle.general.proofs.Names.{◌≤◌, ◌-◌, ◌*◌, ◌/◌, length}
use Rattle.field.specs.Table.{poly_of}
use Rattle.reed_solomon.proofs.Values.{Running}
use Rattle.reed_solomon.proofs.syndromes.low_syndromes.Given as goal

abbrev pub invariant-loop-i : goal.invariant-loop-i
invariant-loop-i l = Running (poly_of l.field) l.first l.parity l.block 0 l.initial.s (4 * l.i) l.s × (l.i ≤ length l.block / 4)

abbrev pub decreases-loop-i : goal.decreases-loop-i
decreases-loop-i l = length l.block / 4 - l.i
