use Rattle.general.proofs.Names.{◌-◌, length}
use Rattle.script.proofs.Runs.{WordsCounted}
use Rattle.script.proofs.char_bits.Given as goal

abbrev pub invariant-loop-j : goal.invariant-loop-j
invariant-loop-j l = WordsCounted l.mode l.run l.initial.first l.j l.first l.words

abbrev pub decreases-loop-j : goal.decreases-loop-j
decreases-loop-j l = length l.run - l.j
