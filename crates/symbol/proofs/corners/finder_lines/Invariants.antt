use Rattle.symbol.specs.Inner.{UpTo, Beyond, corner_kind}
use Rattle.general.proofs.Names.{◌-◌, ◌*◌, ◌≤◌}
use Rattle.symbol.proofs.corners.finder_lines.Given as goal

abbrev pub invariant-loop-row : goal.invariant-loop-row
invariant-loop-row l = UpTo (corner_kind l.side) (l.side * l.side) (l.row * l.side) l.out × Beyond (l.side * l.side) l.initial.out l.out × (l.from ≤ l.row) × (l.row ≤ l.to)

abbrev pub decreases-loop-row : goal.decreases-loop-row
decreases-loop-row l = l.to - l.row
