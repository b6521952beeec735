-- `pair_code` meets its contract. Assumes nothing.
use Rattle.general.proofs.Names.{lt-ltb, le-ltb, eq-eqb, ne_eqb}
use Rattle.script.specs.Writer.{pair_code}
use Rattle.script.proofs.values.pair_code.Goals as goal

pub returns-then-a-lt164 : goal.returns-then-a-lt164
unfolding pair_code
returns-then-a-lt164 c = simp (c.if-one.true, lt-ltb _ _ c.if-a-lt164.true, c.saturating_sub-then-a-lt164.ensures, c.saturating_sub.ensures)

pub returns-then-a-eq168 : goal.returns-then-a-eq168
unfolding pair_code
returns-then-a-eq168 c = simp (c.if-one.true, le-ltb _ _ c.if-a-lt164.false, eq-eqb _ _ c.if-a-eq168.true, c.saturating_sub-then-a-eq168.ensures)

pub returns-then-one : goal.returns-then-one
unfolding pair_code
returns-then-one c =
    simp (
      c.if-one.true,
      le-ltb _ _ c.if-a-lt164.false,
      ne_eqb _ _ c.if-a-eq168.false,
      c.saturating_sub-then-one-2.ensures,
      c.saturating_sub-then-one.ensures,
    )

pub returns : goal.returns
unfolding pair_code
returns c = simp (c.if-one.false, c.saturating_sub-3.ensures, c.saturating_sub-2.ensures)
