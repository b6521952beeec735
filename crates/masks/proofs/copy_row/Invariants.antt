use Rattle.masks.proofs.Rows.{Filling}
use Rattle.general.proofs.Names.{◌-◌}
use Rattle.masks.proofs.copy_row.Given as goal

abbrev pub invariant-loop-c : goal.invariant-loop-c
invariant-loop-c l = Filling l.mask l.i l.c l.row

abbrev pub decreases-loop-c : goal.decreases-loop-c
decreases-loop-c l = l.to - l.c
