-- `hx_block_number` meets its contract. Assumes nothing.
use Rattle.comparison.specs.Marks.{row_answer}
use Rattle.general.proofs.Names.{List, ℕ, get_or, ap, le-leb, lt-leb, lt-ltb, le-ltb}
use Rattle.symbol.specs.Version.{is_version}
use Rattle.comparison.proofs.marks.hx_block_number.Goals as goal

pub returns-then-version-lt-MIN : goal.returns-then-version-lt-MIN
unfolding row_answer is_version
returns-then-version-lt-MIN c = simp (lt-leb _ _ c.if-version-lt-MIN.true)

pub returns-then-version-gt-MAX : goal.returns-then-version-gt-MAX
unfolding row_answer is_version
returns-then-version-gt-MAX c = simp (le-leb _ _ c.if-version-lt-MIN.false, lt-leb _ _ c.if-version-gt-MAX.true)

pub returns-then-level-gt3 : goal.returns-then-level-gt3
unfolding row_answer is_version
returns-then-level-gt3 c = simp (le-leb _ _ c.if-version-lt-MIN.false, le-leb _ _ c.if-version-gt-MAX.false, lt-leb _ _ c.if-level-gt3.true)

pub returns-then-n-ge9 : goal.returns-then-n-ge9
unfolding row_answer is_version
returns-then-n-ge9 c = simp (
  le-leb _ _ c.if-version-lt-MIN.false,
  le-leb _ _ c.if-version-gt-MAX.false,
  le-leb _ _ c.if-level-gt3.false,
  le-ltb _ _ c.if-n-ge9.true,
)

pub returns : goal.returns
unfolding row_answer is_version
returns c =
    simp (
      le-leb _ _ c.if-version-lt-MIN.false,
      le-leb _ _ c.if-version-gt-MAX.false,
      le-leb _ _ c.if-level-gt3.false,
      lt-ltb _ _
          c.if-n-ge9.false,
    ) (ap (λ (r : List ℕ). get_or r c.args.n 0) c.block_row-row.ensures)
