use Rattle.general.proofs.Names.{◌≡◌, ◌-◌, ◌≤◌, length, drop}
use Rattle.encoding.specs.Written.{WordsLeft}
use Rattle.encoding.proofs.write_bytes.Given as goal

abbrev pub invariant-loop-j : goal.invariant-loop-j
invariant-loop-j l = (length l.buf ≡ length l.initial.buf) × (l.j ≤ length l.run) × WordsLeft 8 l.initial.buf l.from l.run l.buf l.at (drop l.j l.run)

abbrev pub decreases-loop-j : goal.decreases-loop-j
decreases-loop-j l = length l.run - l.j
