-- `read_at` meets its contract. Assumes nothing.
use Rattle.general.proofs.Names.{lt-ltb, le-ltb}
use Rattle.bits.specs.Read.{read_at}
use Rattle.bits.proofs.read_at.Goals as goal

pub returns-then-s-gt4096 : goal.returns-then-s-gt4096
unfolding read_at
returns-then-s-gt4096 c = simp (lt-ltb _ _ c.if-s-gt4096.true)

pub returns-then-s-at : goal.returns-then-s-at
unfolding read_at
returns-then-s-at c = simp (le-ltb _ _ c.if-s-gt4096.false, lt-ltb _ _ c.if-s-at.true)

pub returns-then-n-gt21 : goal.returns-then-n-gt21
unfolding read_at
returns-then-n-gt21 c = simp (le-ltb _ _ c.if-s-gt4096.false, le-ltb _ _ c.if-s-at.false, lt-ltb _ _ c.if-n-gt21.true)

pub returns : goal.returns
unfolding read_at
returns c = simp (le-ltb _ _ c.if-s-gt4096.false, le-ltb _ _ c.if-s-at.false, le-ltb _ _ c.if-n-gt21.false)
    c.read_bits.ensures
