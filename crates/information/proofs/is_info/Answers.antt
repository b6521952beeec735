-- `is_info` meets its contract. Assumes nothing.
use Rattle.general.proofs.Names.{sym, true≢false, arith, le-leb, lt-leb, leb-true}
use Rattle.symbol.specs.Version.{is_version}
use Rattle.information.specs.Information.{is_info}
use Rattle.information.proofs.is_info.Goals as goal

pub returns-then-version-lt-MIN : goal.returns-then-version-lt-MIN
unfolding is_info is_version
returns-then-version-lt-MIN c = (simp (lt-leb _ _ c.if-version-lt-MIN.true), λ e. absurd (true≢false (sym e)))

pub returns-then-version-gt-MAX : goal.returns-then-version-gt-MAX
unfolding is_info is_version
returns-then-version-gt-MAX c = (simp (le-leb _ _ c.if-version-lt-MIN.false, lt-leb _ _ c.if-version-gt-MAX.true), λ e. absurd (true≢false (sym e)))

pub returns-then-level-gt3 : goal.returns-then-level-gt3
unfolding is_info is_version
returns-then-level-gt3 c = (simp (le-leb _ _ c.if-version-lt-MIN.false, le-leb _ _ c.if-version-gt-MAX.false, lt-leb _ _ c.if-level-gt3.true), λ e. absurd (true≢false (sym e)))

pub returns : goal.returns
unfolding is_info is_version
returns c = (
  simp (le-leb _ _ c.if-version-lt-MIN.false, le-leb _ _ c.if-version-gt-MAX.false, le-leb _ _ c.if-level-gt3.false),
  λ e. (omega arith, omega arith, leb-true _ _ e),
)
