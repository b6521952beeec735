-- `hx_info_position` meets its contract. Assumes nothing.
use Rattle.comparison.specs.Marks.{position_answer}
use Rattle.general.proofs.Names.{le-leb, lt-leb, lt-ltb, le-ltb}
use Rattle.comparison.proofs.marks.hx_info_position.Goals as goal

pub returns-then-side-lt23 : goal.returns-then-side-lt23
unfolding position_answer
returns-then-side-lt23 c = simp (lt-leb _ _ c.if-side-lt23.true)

pub returns-then-side-gt189 : goal.returns-then-side-gt189
unfolding position_answer
returns-then-side-gt189 c = simp (le-leb _ _ c.if-side-lt23.false, lt-leb _ _ c.if-side-gt189.true)

pub returns-then-n-ge34 : goal.returns-then-n-ge34
unfolding position_answer
returns-then-n-ge34 c = simp (le-leb _ _ c.if-side-lt23.false, le-leb _ _ c.if-side-gt189.false, le-ltb _ _ c.if-n-ge34.true)

pub returns : goal.returns
unfolding position_answer
returns c = simp (le-leb _ _ c.if-side-lt23.false, le-leb _ _ c.if-side-gt189.false, lt-ltb _ _ c.if-n-ge34.false)
    c.info_position.ensures.0
