-- `hx_total` meets its contract. Assumes nothing.
use Rattle.comparison.specs.Marks.{total_answer}
use Rattle.general.proofs.Names.{le-leb, lt-leb}
use Rattle.symbol.specs.Version.{is_version}
use Rattle.comparison.proofs.marks.hx_total.Goals as goal

pub returns-then-version-lt-MIN : goal.returns-then-version-lt-MIN
unfolding total_answer is_version
returns-then-version-lt-MIN c = simp (lt-leb _ _ c.if-version-lt-MIN.true)

pub returns-then-version-gt-MAX : goal.returns-then-version-gt-MAX
unfolding total_answer is_version
returns-then-version-gt-MAX c = simp (le-leb _ _ c.if-version-lt-MIN.false, lt-leb _ _ c.if-version-gt-MAX.true)

pub returns : goal.returns
unfolding total_answer is_version
returns c = simp (le-leb _ _ c.if-version-lt-MIN.false, le-leb _ _ c.if-version-gt-MAX.false) c.total_codewords.ensures.0
