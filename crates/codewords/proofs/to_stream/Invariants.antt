use Rattle.codewords.specs.Inner.{Moves}
use Rattle.general.proofs.Names.{true, length, drop, ◌-◌, ◌≤◌, ◌≡◌}
use Rattle.codewords.proofs.to_stream.Given as goal

abbrev pub invariant-loop-start : goal.invariant-loop-start
invariant-loop-start l = Moves true l.total l.codewords l.out l.start l.i × (drop l.total l.out ≡ drop l.total l.initial.out) × (l.start ≤ 13) × (length l.out ≡ length l.initial.out)

abbrev pub decreases-loop-start : goal.decreases-loop-start
decreases-loop-start l = 13 - l.start
