use Rattle.general.proofs.Names.{◌+◌, ◌-◌}
use Rattle.symbol.specs.Layout.{m_of, crossing}
use Rattle.symbol.proofs.Plots.{TurnsDone}
use Rattle.symbol.proofs.alignment.row_crossings.Given as goal

abbrev pub invariant-loop-j : goal.invariant-loop-j
invariant-loop-j l = TurnsDone l.p.side (crossing l.p.version l.n) (m_of l.p.version + 2) l.initial.grid l.grid l.j

abbrev pub decreases-loop-j : goal.decreases-loop-j
decreases-loop-j l = l.lines - l.j
