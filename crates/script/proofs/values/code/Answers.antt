-- `code` meets its contract. Assumes nothing.
use Rattle.general.proofs.Names.{◌≡◌, ◌-◌, arith, lt-ltb, le-ltb}
use Rattle.script.specs.Writer.{code_of}
use Rattle.script.proofs.values.code.Goals as goal

pub returns-then-b-lt48 : goal.returns-then-b-lt48
unfolding code_of
returns-then-b-lt48 c =
    let z : c.args.b - 48 ≡ 0 = omega arith in
    rw (c.if-first.true, lt-ltb c.args.b 58 (omega arith), z)

pub returns-then-b-lt58 : goal.returns-then-b-lt58
unfolding code_of
returns-then-b-lt58 c = simp (lt-ltb _ _ c.if-b-lt58.true, c.if-first.true)

pub returns-then-b-lt91 : goal.returns-then-b-lt91
unfolding code_of
returns-then-b-lt91 c = simp (lt-ltb _ _ c.if-b-lt91.true, le-ltb _ _ c.if-b-lt58.false, c.if-first.true)

pub returns-then-first : goal.returns-then-first
unfolding code_of
returns-then-first c = simp (le-ltb _ _ c.if-b-lt91.false, le-ltb _ _ c.if-b-lt58.false, c.if-first.true)

pub returns-then-b-lt28 : goal.returns-then-b-lt28
unfolding code_of
returns-then-b-lt28 c = simp (lt-ltb _ _ c.if-b-lt28.true, c.if-first.false)

pub returns-then-b-lt48-2 : goal.returns-then-b-lt48-2
unfolding code_of
returns-then-b-lt48-2 c = simp (lt-ltb _ _ c.if-b-lt48-2.true, le-ltb _ _ c.if-b-lt28.false, c.if-first.false)

pub returns-then-b-lt65 : goal.returns-then-b-lt65
unfolding code_of
returns-then-b-lt65 c = simp (lt-ltb _ _ c.if-b-lt65.true, le-ltb _ _ c.if-b-lt48-2.false, le-ltb _ _ c.if-b-lt28.false, c.if-first.false)

pub returns-then-b-lt97 : goal.returns-then-b-lt97
unfolding code_of
returns-then-b-lt97 c =
    simp (
      lt-ltb _ _ c.if-b-lt97.true,
      le-ltb _ _ c.if-b-lt65.false,
      le-ltb _ _ c.if-b-lt48-2.false,
      le-ltb _ _
          c.if-b-lt28.false,
      c.if-first.false,
    )

pub returns : goal.returns
unfolding code_of
returns c =
    simp (
      le-ltb _ _ c.if-b-lt97.false,
      le-ltb _ _ c.if-b-lt65.false,
      le-ltb _ _ c.if-b-lt48-2.false,
      le-ltb _ _
          c.if-b-lt28.false,
      c.if-first.false,
    )
