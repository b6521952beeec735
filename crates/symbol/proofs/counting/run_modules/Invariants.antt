use Rattle.symbol.specs.Layout.{data_modules}
use Rattle.general.proofs.Names.{take, ◌+◌, ◌-◌, ◌≤◌, ◌≡◌}
use Rattle.symbol.proofs.counting.run_modules.Given as goal

abbrev pub invariant-loop-i : goal.invariant-loop-i
invariant-loop-i l = (l.i ≤ l.to) × (l.from + l.count ≤ l.i) × (data_modules (take l.from l.kinds) + l.count ≡ data_modules (take l.i l.kinds))

abbrev pub decreases-loop-i : goal.decreases-loop-i
decreases-loop-i l = l.to - l.i
