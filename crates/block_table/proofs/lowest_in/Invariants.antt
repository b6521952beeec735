use Rattle.general.proofs.Names.{◌≡◌, ◌-◌, ◌≤◌}
use Rattle.general.specs.Lists.{lowest}
use Rattle.block_table.specs.Inner.{enough}
use Rattle.block_table.proofs.lowest_in.Given as goal

abbrev pub invariant-loop-version : goal.invariant-loop-version
invariant-loop-version l = (1 ≤ l.version) × (l.version ≤ 85) × (lowest (enough l.table l.level l.bits) (85 - l.from) l.from ≡ lowest (enough l.table l.level l.bits) (85 - l.version) l.version)

abbrev pub decreases-loop-version : goal.decreases-loop-version
decreases-loop-version l = 85 - l.version
