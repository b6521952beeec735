use Rattle.masks.specs.Columns.{Columns}
use Rattle.general.proofs.Names.{◌-◌, ◌≤◌}
use Rattle.masks.proofs.fill_rows.Given as goal

abbrev pub invariant-loop-c : goal.invariant-loop-c
invariant-loop-c l = Columns l.mask l.c l.table × (l.c ≤ l.n)

abbrev pub decreases-loop-c : goal.decreases-loop-c
decreases-loop-c l = l.n - l.c
