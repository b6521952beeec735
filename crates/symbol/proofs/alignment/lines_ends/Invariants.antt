use Rattle.general.proofs.Names.{cond, ◌+◌, ◌-◌}
use Rattle.symbol.specs.Layout.{m_of, row_ends, column_ends}
use Rattle.symbol.proofs.Plots.{TurnsDone}
use Rattle.symbol.proofs.alignment.lines_ends.Given as goal

abbrev pub invariant-loop-n : goal.invariant-loop-n
invariant-loop-n l = TurnsDone l.p.side (λ k. cond l.rows (row_ends l.p.version k) (column_ends l.p.version k)) (m_of l.p.version + 2) l.initial.grid l.grid l.n

abbrev pub decreases-loop-n : goal.decreases-loop-n
decreases-loop-n l = l.lines - l.n
