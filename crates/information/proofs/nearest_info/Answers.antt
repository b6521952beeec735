-- `nearest_info` meets its contract. Assumes nothing.
use Rattle.information.specs.Information.{nearest_of}
use Rattle.symbol.specs.Version.{is_version}
use Rattle.general.proofs.Names.{◌/◌, ◌%◌, le-leb, lt-leb}
use Rattle.information.proofs.nearest_info.Goals as goal

pub returns-then-version-lt-MIN : goal.returns-then-version-lt-MIN
unfolding nearest_of is_version
returns-then-version-lt-MIN c = simp (lt-leb _ _ c.if-version-lt-MIN.true)

pub returns-then-version-gt-MAX : goal.returns-then-version-gt-MAX
unfolding nearest_of is_version
returns-then-version-gt-MAX c = simp (le-leb _ _ c.if-version-lt-MIN.false, lt-leb _ _ c.if-version-gt-MAX.true)

pub returns : goal.returns
unfolding nearest_of is_version
returns c = let best = c.nearest_word-best.ensures in
    simp (le-leb _ _ c.if-version-lt-MIN.false, le-leb _ _ c.if-version-gt-MAX.false)
    (λ i. record { number = 0; level = best.word_is i / 4; mask = best.word_is i % 4; distance = best.at i })
