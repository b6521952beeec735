-- `end_word` meets its contract. Assumes nothing.
use borrow.Author.Tests.{eq-eqb, ne_eqb}
use Rattle.script.specs.Characters.{end_of}
use Rattle.encoding.proofs.end_word.Goals as goal

pub returns-then-mode-eq-TEXT : goal.returns-then-mode-eq-TEXT
unfolding end_of
returns-then-mode-eq-TEXT c = rw (eq-eqb _ 2 c.if-mode-eq-TEXT.true)

pub returns-then-mode-eq-TWO_BYTE : goal.returns-then-mode-eq-TWO_BYTE
unfolding end_of
returns-then-mode-eq-TWO_BYTE c = rw (ne_eqb _ 2 c.if-mode-eq-TEXT.false, eq-eqb _ 6 c.if-mode-eq-TWO_BYTE.true)

pub returns : goal.returns
unfolding end_of
returns c = rw (ne_eqb _ 2 c.if-mode-eq-TEXT.false, ne_eqb _ 6 c.if-mode-eq-TWO_BYTE.false)
