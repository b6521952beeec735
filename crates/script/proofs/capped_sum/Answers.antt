-- `capped_sum` meets its contract. Assumes nothing.
use Rattle.general.proofs.Names.{arith, lt-ltb, le-ltb}
use Rattle.script.proofs.capped_sum.Goals as goal

pub returns-then-x-y-lt-TOO_MANY_BITS : goal.returns-then-x-y-lt-TOO_MANY_BITS
returns-then-x-y-lt-TOO_MANY_BITS c = (rw (lt-ltb _ 31089 c.if-x-y-lt-TOO_MANY_BITS.true), omega arith)

pub returns : goal.returns
returns c = (rw (le-ltb _ 31089 c.if-x-y-lt-TOO_MANY_BITS.false), omega arith)
