-- `offset` meets its contract. Assumes nothing.
use Rattle.general.proofs.Names.{arith, lt-ltb, le-ltb}
use Rattle.segments.specs.Segments.{char_of}
use Rattle.segments.proofs.text.offset.Goals as goal

pub returns-then-w-lt10 : goal.returns-then-w-lt10
unfolding char_of
returns-then-w-lt10 c = simp (c.if-first.true, lt-ltb _ _ c.if-w-lt10.true) (omega arith, omega arith)

pub returns-then-w-lt36 : goal.returns-then-w-lt36
unfolding char_of
returns-then-w-lt36 c = simp (c.if-first.true, le-ltb _ _ c.if-w-lt10.false, lt-ltb _ _ c.if-w-lt36.true) (omega arith, omega arith)

pub returns-then-first : goal.returns-then-first
unfolding char_of
returns-then-first c = simp (c.if-first.true, le-ltb _ _ c.if-w-lt10.false, le-ltb _ _ c.if-w-lt36.false) (omega arith, omega arith)

pub returns-then-w-lt28 : goal.returns-then-w-lt28
unfolding char_of
returns-then-w-lt28 c = simp (c.if-first.false, lt-ltb _ _ c.if-w-lt28.true) (omega arith, omega arith)

pub returns-then-w-lt44 : goal.returns-then-w-lt44
unfolding char_of
returns-then-w-lt44 c = simp (c.if-first.false, le-ltb _ _ c.if-w-lt28.false, lt-ltb _ _ c.if-w-lt44.true) (omega arith, omega arith)

pub returns-then-w-lt51 : goal.returns-then-w-lt51
unfolding char_of
returns-then-w-lt51 c = simp (c.if-first.false, le-ltb _ _ c.if-w-lt28.false, le-ltb _ _ c.if-w-lt44.false, lt-ltb _ _ c.if-w-lt51.true) (omega arith, omega arith)

pub returns-then-w-lt57 : goal.returns-then-w-lt57
unfolding char_of
returns-then-w-lt57 c =
    simp (
      c.if-first.false,
      le-ltb _ _ c.if-w-lt28.false,
      le-ltb _ _ c.if-w-lt44.false,
      le-ltb _ _ c.if-w-lt51.false,
      lt-ltb _ _ c.if-w-lt57.true,
    ) (omega arith, omega arith)

pub returns : goal.returns
unfolding char_of
returns c =
    simp (
      c.if-first.false,
      le-ltb _ _ c.if-w-lt28.false,
      le-ltb _ _ c.if-w-lt44.false,
      le-ltb _ _ c.if-w-lt51.false,
      le-ltb _ _ c.if-w-lt57.false,
    ) (omega arith, omega arith)
