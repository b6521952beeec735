use Rattle.general.proofs.Names.{◌-◌, ◌≤◌, ◌≡◌}
use Rattle.information.specs.Inner.{lowest, module_of, number_from}
use Rattle.information.proofs.read_arm.Given as goal

abbrev pub invariant-loop-n : goal.invariant-loop-n
invariant-loop-n l = (l.n ≤ l.to) × (l.w ≡ number_from (module_of l.side l.second (lowest l.square)) l.n)

abbrev pub decreases-loop-n : goal.decreases-loop-n
decreases-loop-n l = l.to - l.n
