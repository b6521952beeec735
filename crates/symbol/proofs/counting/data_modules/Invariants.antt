use Rattle.symbol.specs.Layout.{data_modules}
use Rattle.general.proofs.Names.{take, ◌-◌, ◌≤◌, ◌≡◌}
use Rattle.symbol.proofs.counting.data_modules.Given as goal

abbrev pub invariant-loop-i : goal.invariant-loop-i
invariant-loop-i l = (l.i ≤ l.n) × (l.count ≡ data_modules (take l.i l.kinds))

abbrev pub decreases-loop-i : goal.decreases-loop-i
decreases-loop-i l = l.n - l.i
