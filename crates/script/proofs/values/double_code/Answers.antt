-- `double_code` meets its contract. Assumes nothing.
use Rattle.general.proofs.Names.{lt-ltb, le-ltb}
use Rattle.script.specs.Writer.{double_code}
use Rattle.script.proofs.values.double_code.Goals as goal

pub returns-then-b-lt127 : goal.returns-then-b-lt127
unfolding double_code
returns-then-b-lt127 c = simp (lt-ltb _ _ c.if-b-lt127.true, c.saturating_sub-then-b-lt127.ensures, c.saturating_sub.ensures)

pub returns : goal.returns
unfolding double_code
returns c = simp (le-ltb _ _ c.if-b-lt127.false, c.saturating_sub-2.ensures)
