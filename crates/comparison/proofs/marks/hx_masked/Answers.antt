-- `hx_masked` meets its contract. Assumes nothing.
use Rattle.comparison.specs.Marks.{mask_answer}
use Rattle.general.proofs.Names.{lt-ltb, le-ltb}
use Rattle.comparison.proofs.marks.hx_masked.Goals as goal

pub returns-then-row-ge1000 : goal.returns-then-row-ge1000
unfolding mask_answer
returns-then-row-ge1000 c = simp (le-ltb _ _ c.if-row-ge1000.true)

pub returns-then-column-ge1000 : goal.returns-then-column-ge1000
unfolding mask_answer
returns-then-column-ge1000 c = simp (lt-ltb _ _ c.if-row-ge1000.false, le-ltb _ _ c.if-column-ge1000.true)

pub returns : goal.returns
unfolding mask_answer
returns c = simp (lt-ltb _ _ c.if-row-ge1000.false, lt-ltb _ _ c.if-column-ge1000.false) c.masked.ensures.0
