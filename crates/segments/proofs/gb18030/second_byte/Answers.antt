-- `second_byte` meets its contract. Assumes nothing.
use Rattle.general.proofs.Names.{arith, lt-ltb, le-ltb}
use Rattle.segments.specs.Segments.{second_byte}
use Rattle.segments.proofs.gb18030.second_byte.Goals as goal

pub returns-then-rest-lt63 : goal.returns-then-rest-lt63
unfolding second_byte
returns-then-rest-lt63 c = (omega arith, simp (lt-ltb _ _ c.if-rest-lt63.true))

pub returns : goal.returns
unfolding second_byte
returns c = (omega arith, simp (le-ltb _ _ c.if-rest-lt63.false))
