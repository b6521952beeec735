-- `is_allowed` meets its contract. Assumes nothing.
use borrow.Author.Tests.{eq-eqb, ne_eqb, le-leb, lt-leb}
use Rattle.script.specs.Check.{allowed}
use Rattle.script.proofs.commands.is_allowed.Goals as goal

pub returns-then-mode-eq-NUMERIC : goal.returns-then-mode-eq-NUMERIC
unfolding allowed
returns-then-mode-eq-NUMERIC c = rw (eq-eqb _ 1 c.if-mode-eq-NUMERIC.true)

pub returns-then-mode-eq-BYTES : goal.returns-then-mode-eq-BYTES
unfolding allowed
returns-then-mode-eq-BYTES c = rw (ne_eqb _ 1 c.if-mode-eq-NUMERIC.false, eq-eqb _ 3 c.if-mode-eq-BYTES.true)

pub returns-then-mode-ge-REGION_ONE : goal.returns-then-mode-ge-REGION_ONE
unfolding allowed
returns-then-mode-ge-REGION_ONE c = rw (ne_eqb _ 1 c.if-mode-eq-NUMERIC.false, ne_eqb _ 3 c.if-mode-eq-BYTES.false, le-leb 4 _ c.if-mode-ge-REGION_ONE.true)

pub returns : goal.returns
unfolding allowed
returns c = rw (ne_eqb _ 1 c.if-mode-eq-NUMERIC.false, ne_eqb _ 3 c.if-mode-eq-BYTES.false, lt-leb 4 _ c.if-mode-ge-REGION_ONE.false)
