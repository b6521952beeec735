-- `Version::from_side` meets its contract.
use Rattle.general.proofs.Names.{◌%◌, arith, le-leb, lt-leb, eq-eqb, ne_eqb}
use Rattle.symbol.specs.Version.{is_side, side_refusal, side_version}
use Rattle.symbol.proofs.Version.from_side.Goals as goal

pub returns-then-side-lt-MIN_SIDE : goal.returns-then-side-lt-MIN_SIDE
unfolding is_side side_refusal side_version
returns-then-side-lt-MIN_SIDE c = (simp (lt-leb _ _ c.if-side-lt-MIN_SIDE.true), simp (lt-leb _ _ c.if-side-lt-MIN_SIDE.true))

pub returns-then-side-gt-MAX_SIDE : goal.returns-then-side-gt-MAX_SIDE
unfolding is_side side_refusal side_version
returns-then-side-gt-MAX_SIDE c = (simp (le-leb _ _ c.if-side-lt-MIN_SIDE.false, lt-leb _ _ c.if-side-gt-MAX_SIDE.true), simp (le-leb _ _ c.if-side-lt-MIN_SIDE.false, lt-leb _ _ c.if-side-gt-MAX_SIDE.true))

pub returns-then-side-eq0 : goal.returns-then-side-eq0
unfolding is_side side_refusal side_version
returns-then-side-eq0 c =
    let h = ne_eqb (c.args.side % 2) 1 (λ z. omega arith) in
    (simp (le-leb _ _ c.if-side-lt-MIN_SIDE.false, le-leb _ _ c.if-side-gt-MAX_SIDE.false, h), simp (le-leb _ _ c.if-side-lt-MIN_SIDE.false, le-leb _ _ c.if-side-gt-MAX_SIDE.false, h))

pub returns : goal.returns
unfolding is_side side_refusal side_version
returns c =
    let h = eq-eqb (c.args.side % 2) 1 (omega arith) in
    (simp (le-leb _ _ c.if-side-lt-MIN_SIDE.false, le-leb _ _ c.if-side-gt-MAX_SIDE.false, h), simp (le-leb _ _ c.if-side-lt-MIN_SIDE.false, le-leb _ _ c.if-side-gt-MAX_SIDE.false, h))
