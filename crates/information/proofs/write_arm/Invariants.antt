use Rattle.general.proofs.Names.{length, ◌-◌, ◌≤◌, ◌≡◌}
use Rattle.information.specs.Inner.{ArmWritten}
use Rattle.information.proofs.write_arm.Given as goal

abbrev pub invariant-loop-n : goal.invariant-loop-n
invariant-loop-n l = (l.n ≤ l.to) × ArmWritten l.side l.second l.word l.from l.n l.initial.square l.square × (length l.square ≡ length l.initial.square)

abbrev pub decreases-loop-n : goal.decreases-loop-n
decreases-loop-n l = l.to - l.n
