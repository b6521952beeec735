-- What all else rests on: version, level and mask in their ranges, their word, and the version's layout. Assumes nothing.
use Rattle.general.proofs.Names.{◌≡◌, sym, ap, ◌∙◌, true, List, ℕ, ◌*◌, ◌≤◌, arith, length}
use Rattle.symbol.specs.Version.{side_of}
use Rattle.symbol.specs.Layout.{layout_written}
use Rattle.symbol.proofs.Coordinates.{square_le}
use Rattle.information.specs.declared.InfoBits.{InfoBits}
use Rattle.information.specs.declared.InfoBits.TheVariants.{Word}
use Rattle.information.specs.Information.{is_info, info_bits, InfoAnswer, info_of, info_answer}
use Rattle.marks.proofs.Marks.{Ranges, ranges}
use Rattle.marks.proofs.Starts.{layout_front, has_word}
use Rattle.writer.specs.Inner.{ValidMark, MarkWithLayout}
use Rattle.writer.specs.declared.Mark.{Mark}

-- the side of a version, squared
pub square_small : (v side : ℕ) → v ≤ 84 → side ≡ side_of v → side * side ≤ 35721
square_small v side h e = square_le side (omega arith)

-- ---- b is the answer for the word of the three, and it is a word

module _ (v l k : ℕ) (b : InfoBits) (er : info_answer b ≡ info_of v l k) (w : ℕ) (e : b ≡ Word w) where
  has : is_info v l k ≡ true
  has = has_word v l k b er w e

  -- it is theirs
  theirs : info_of v l k ≡ record { number = 0; word = info_bits v l k }
  unfolding info_of
  theirs = simp has

  word_is : w ≡ info_bits v l k
  word_is = sym (ap (λ (x : InfoBits). (info_answer x).word) e) ∙ ap (λ (x : InfoAnswer). x.word) (er ∙ theirs)

  pub valid : ValidMark (record { version = v; level = l; mask = k; word = w })
  valid = let R = ranges v l k has in record { low = R.low; high = R.high; level = R.level; mask = R.mask; word = word_is }

pub in_ranges : {m : Mark} → ValidMark m → Ranges m.version m.level m.mask
in_ranges R = record { low = R.low; high = R.high; level = R.level; mask = R.mask }

-- with the layout in a buffer
pub mark_with_layout : (m : Mark) (out g : List ℕ) → ValidMark m → side_of m.version * side_of m.version ≤ length out → g ≡ layout_written m.version out → MarkWithLayout m g
mark_with_layout m out g R h q = let F = layout_front m.version out g R.low R.high h q in record { valid = R; long = F.0; kinds = F.1 }
