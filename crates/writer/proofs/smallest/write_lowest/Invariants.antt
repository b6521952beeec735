use Rattle.general.proofs.Names.{◌≡◌, ◌-◌}
use Rattle.writer.proofs.Fronts.{Candidate}
use Rattle.writer.proofs.smallest.write_lowest.Given as goal

abbrev pub invariant-loop-version : goal.invariant-loop-version
invariant-loop-version l = Candidate l.level l.bits l.script l.payload l.version × (l.square ≡ l.initial.square)

abbrev pub decreases-loop-version : goal.decreases-loop-version
decreases-loop-version l = 85 - l.version
