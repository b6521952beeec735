-- `position_column` meets its contract. Assumes nothing.
use Rattle.information.specs.Information.{position_column}
use Rattle.general.proofs.Names.{lt-ltb, le-ltb}
use Rattle.information.proofs.position_column.Goals as goal

pub returns-then-n-lt9 : goal.returns-then-n-lt9
unfolding position_column
returns-then-n-lt9 c = simp (lt-ltb _ _ c.if-n-lt9.true)

pub returns-then-n-lt17 : goal.returns-then-n-lt17
unfolding position_column
returns-then-n-lt17 c = simp (le-ltb _ _ c.if-n-lt9.false, lt-ltb _ _ c.if-n-lt17.true)

pub returns-then-n-lt26 : goal.returns-then-n-lt26
unfolding position_column
returns-then-n-lt26 c = simp (le-ltb _ _ c.if-n-lt9.false, le-ltb _ _ c.if-n-lt17.false, lt-ltb _ _ c.if-n-lt26.true)

pub returns : goal.returns
unfolding position_column
returns c = simp (le-ltb _ _ c.if-n-lt9.false, le-ltb _ _ c.if-n-lt17.false, le-ltb _ _ c.if-n-lt26.false)
