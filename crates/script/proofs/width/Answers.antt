-- `width` meets its contract. Assumes nothing.
use Rattle.general.proofs.Names.{arith, eq-eqb, ne_eqb}
use Rattle.script.specs.Characters.{width_of}
use Rattle.script.proofs.width.Goals as goal

pub returns-then-mode-eq-TEXT : goal.returns-then-mode-eq-TEXT
unfolding width_of
returns-then-mode-eq-TEXT c = (rw (eq-eqb _ 2 c.if-mode-eq-TEXT.true), omega arith, omega arith)

pub returns-then-mode-eq-TWO_BYTE : goal.returns-then-mode-eq-TWO_BYTE
unfolding width_of
returns-then-mode-eq-TWO_BYTE c = (rw (ne_eqb _ 2 c.if-mode-eq-TEXT.false, eq-eqb _ 6 c.if-mode-eq-TWO_BYTE.true), omega arith, omega arith)

pub returns : goal.returns
unfolding width_of
returns c = (rw (ne_eqb _ 2 c.if-mode-eq-TEXT.false, ne_eqb _ 6 c.if-mode-eq-TWO_BYTE.false), omega arith, omega arith)
