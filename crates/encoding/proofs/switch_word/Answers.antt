-- `switch_word` meets its contract. Assumes nothing.
use borrow.Author.Tests.{eq-eqb, ne_eqb}
use Rattle.script.specs.Characters.{switch_of}
use Rattle.encoding.proofs.switch_word.Goals as goal

pub returns-then-mode-eq-TEXT : goal.returns-then-mode-eq-TEXT
unfolding switch_of
returns-then-mode-eq-TEXT c = rw (eq-eqb _ 2 c.if-mode-eq-TEXT.true)

pub returns-else-mode-eq-TEXT : goal.returns-else-mode-eq-TEXT
unfolding switch_of
returns-else-mode-eq-TEXT c = rw (ne_eqb _ 2 c.if-mode-eq-TEXT.false)
