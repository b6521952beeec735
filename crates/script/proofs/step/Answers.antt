-- `step` meets its contract. Assumes nothing.
use Rattle.general.proofs.Names.{arith, eq-eqb, ne_eqb}
use Rattle.script.specs.Characters.{step_of}
use Rattle.script.proofs.step.Goals as goal

pub returns-then-mode-eq-TEXT : goal.returns-then-mode-eq-TEXT
unfolding step_of
returns-then-mode-eq-TEXT c = (rw (eq-eqb _ 2 c.if-mode-eq-TEXT.true), omega arith, omega arith)

pub returns-else-mode-eq-TEXT : goal.returns-else-mode-eq-TEXT
unfolding step_of
returns-else-mode-eq-TEXT c = (rw (ne_eqb _ 2 c.if-mode-eq-TEXT.false), omega arith, omega arith)
