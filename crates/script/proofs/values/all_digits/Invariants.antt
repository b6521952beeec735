use Rattle.general.proofs.Names.{◌≡◌, ◌&&◌, ◌≤◌, ◌-◌, ltb, length, drop}
use Rattle.script.specs.Writer.{is_digit}
use Rattle.general.specs.Lists.{all}
use Rattle.script.proofs.values.all_digits.Given as goal

abbrev pub invariant-loop-j : goal.invariant-loop-j
invariant-loop-j l = (l.j ≤ length l.run) × (all is_digit l.run ≡ (ltb l.top 10 && all is_digit (drop l.j l.run)))

abbrev pub decreases-loop-j : goal.decreases-loop-j
decreases-loop-j l = length l.run - l.j
