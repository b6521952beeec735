use Rattle.general.proofs.Names.{◌+◌, ◌-◌}
use Rattle.symbol.specs.Layout.{m_of, crossing}
use Rattle.symbol.proofs.Plots.{TurnsDone}
use Rattle.general.specs.Lists.{each}
use Rattle.symbol.proofs.alignment.crossings.Given as goal

abbrev pub invariant-loop-n : goal.invariant-loop-n
invariant-loop-n l = TurnsDone l.p.side (λ n. each (m_of l.p.version + 2) (crossing l.p.version n)) (m_of l.p.version + 2) l.initial.grid l.grid l.n

abbrev pub decreases-loop-n : goal.decreases-loop-n
decreases-loop-n l = l.lines - l.n
