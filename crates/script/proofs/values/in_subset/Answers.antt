-- `in_subset` meets its contract. Assumes nothing.
use Rattle.general.proofs.Names.{lt-ltb, le-ltb}
use Rattle.script.specs.Writer.{in_subset}
use Rattle.script.proofs.values.in_subset.Goals as goal

pub returns-then-c-lt62 : goal.returns-then-c-lt62
unfolding in_subset
returns-then-c-lt62 c = rw (c.text_char.ensures.1, c.code-c.ensures, lt-ltb _ 62 (rw c.code-c.ensures at c.if-c-lt62.true))

pub returns : goal.returns
unfolding in_subset
returns c = rw (le-ltb _ 62 (rw c.code-c.ensures at c.if-c-lt62.false))
