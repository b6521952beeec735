-- `position_row` meets its contract. Assumes nothing.
use Rattle.information.specs.Information.{position_row}
use Rattle.general.proofs.Names.{lt-ltb, le-ltb}
use Rattle.information.proofs.position_row.Goals as goal

pub returns-then-n-lt9 : goal.returns-then-n-lt9
unfolding position_row
returns-then-n-lt9 c = simp (lt-ltb _ _ c.if-n-lt9.true)

pub returns-then-n-lt17 : goal.returns-then-n-lt17
unfolding position_row
returns-then-n-lt17 c = simp (le-ltb _ _ c.if-n-lt9.false, lt-ltb _ _ c.if-n-lt17.true)

pub returns-then-n-lt26 : goal.returns-then-n-lt26
unfolding position_row
returns-then-n-lt26 c = simp (le-ltb _ _ c.if-n-lt9.false, le-ltb _ _ c.if-n-lt17.false, lt-ltb _ _ c.if-n-lt26.true)

pub returns : goal.returns
unfolding position_row
returns c = simp (le-ltb _ _ c.if-n-lt9.false, le-ltb _ _ c.if-n-lt17.false, le-ltb _ _ c.if-n-lt26.false)
