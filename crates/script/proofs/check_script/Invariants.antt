use Rattle.general.proofs.Names.{◌-◌, ◌≤◌, length}
use Rattle.script.proofs.Checks.{CheckFrom}
use Rattle.script.proofs.check_script.Given as goal

abbrev pub invariant-loop-i : goal.invariant-loop-i
invariant-loop-i l = (l.i ≤ length l.script) × (l.j ≤ length l.payload) × (l.total ≤ 31089) × CheckFrom l.script l.payload l.i l.j l.lacks l.total

abbrev pub decreases-loop-i : goal.decreases-loop-i
decreases-loop-i l = length l.script - l.i
