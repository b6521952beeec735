use Rattle.general.proofs.Names.{◌+◌, ◌-◌}
use lib.IntN.{pos, ◌+ℤ◌}
use Rattle.symbol.specs.Layout.{line_module}
use Rattle.symbol.proofs.Plots.{TurnsDone}
use Rattle.symbol.proofs.patterns.run_down.Given as goal

abbrev pub invariant-loop-i : goal.invariant-loop-i
invariant-loop-i l = TurnsDone l.side (λ n. line_module (pos l.column) (pos l.row +ℤ pos (n + 1))) (l.height - 1) l.initial.grid l.grid l.i

abbrev pub decreases-loop-i : goal.decreases-loop-i
decreases-loop-i l = l.height - 1 - l.i
