use Rattle.drawing.specs.Puts.{RowBuffers, Puts}
use Rattle.general.proofs.Names.{length, ◌-◌, ◌≤◌}
use Rattle.drawing.proofs.put_row.Given as goal

abbrev pub invariant-loop-p : goal.invariant-loop-p
invariant-loop-p l = RowBuffers l.square l.kinds l.row l.codewords × (l.p.column ≤ length l.kinds) × Puts l.kinds l.row l.codewords l.initial.square l.square l.initial.p l.p

abbrev pub decreases-loop-p : goal.decreases-loop-p
decreases-loop-p l = length l.kinds - l.p.column
