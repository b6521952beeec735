use Rattle.general.proofs.Names.{◌≡◌, true, ◌+◌, ◌-◌, ◌*◌, ◌≤◌, length, drop}
use Rattle.script.specs.Characters.{words_of, has_all}
use Rattle.encoding.specs.Written.{WordsLeft}
use Rattle.encoding.proofs.write_chars.Given as goal

abbrev pub invariant-loop-j : goal.invariant-loop-j
invariant-loop-j l = (length l.buf ≡ length l.initial.buf) × (l.j ≤ length l.run) × (has_all l.mode (drop l.j l.run) ≡ true) × (l.from + l.w * length (words_of l.mode l.initial.first l.run) ≤ 8 * length l.initial.buf)
    × WordsLeft l.w l.initial.buf l.from (words_of l.mode l.initial.first l.run) l.buf l.at (words_of l.mode l.first (drop l.j l.run))

abbrev pub decreases-loop-j : goal.decreases-loop-j
decreases-loop-j l = length l.run - l.j
