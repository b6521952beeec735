use Rattle.general.proofs.Names.{◌≡◌, ◌-◌, ◌≤◌, length, drop}
use Rattle.script.specs.Writer.{numeric_words}
use Rattle.encoding.specs.Written.{WordsLeft}
use Rattle.encoding.proofs.write_groups.Given as goal

abbrev pub invariant-loop-j : goal.invariant-loop-j
invariant-loop-j l = (length l.buf ≡ length l.initial.buf) × (l.j ≤ length l.run) × WordsLeft 10 l.initial.buf l.from (numeric_words l.run) l.buf l.at (numeric_words (drop l.j l.run))

abbrev pub decreases-loop-j : goal.decreases-loop-j
decreases-loop-j l = length l.run - l.j
