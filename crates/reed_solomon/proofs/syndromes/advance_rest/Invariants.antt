use Rattle.general.proofs.Names.{◌≤◌, ◌-◌, length}
use Rattle.field.specs.Table.{poly_of}
use Rattle.reed_solomon.proofs.Values.{Running}
use Rattle.reed_solomon.proofs.syndromes.advance_rest.Given as goal

abbrev pub invariant-loop-i : goal.invariant-loop-i
invariant-loop-i l = Running (poly_of l.field) l.first l.parity l.block l.at l.initial.s l.i l.s × (l.i ≤ length l.block)

abbrev pub decreases-loop-i : goal.decreases-loop-i
decreases-loop-i l = length l.block - l.i
