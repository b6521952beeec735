-- `write_front` meets its contract: what Write a square answers for the front of the square, or for none of it. Assumes nothing.
use Rattle.general.proofs.Names.{sym, ap, ℕ, ◌*◌, arith, length-take-le, rules}
use Rattle.marks.proofs.Starts.{no_word}
use Rattle.writer.specs.Inner.{ValidMark}
use Rattle.writer.proofs.Starts.{square_small, valid, in_ranges}
use Rattle.writer.proofs.Fronts.{front_no_word, front_lent, front_short, fits_open}
use Rattle.writer.proofs.smallest.write_front.Goals as goal
use Rattle.writer.proofs.smallest.write_front.Goals.{In-Word}

-- version, level and mask are in their ranges, and the word is theirs
made : (c : In-Word) →
    ValidMark (record { version = c.args.version; level = c.args.level; mask = c.args.mask; word = c.in-Word.word })
made c = valid _ _ _ _ c.info_bits.ensures _ c.in-Word.is

pub returns-in_default : goal.returns-in_default
returns-in_default c =
    front_no_word _ _ _ c.args.script.now c.args.payload.now c.args.square.now
    (no_word _ _ _ _ c.info_bits.ensures c.in_default.is)

pub block_row-row-requires : goal.block_row-row-requires
block_row-row-requires c = ((made (goal.at.block_row-row-requires c).In-Word).low, (made (goal.at.block_row-row-requires c).In-Word).high, (made (goal.at.block_row-row-requires c).In-Word).level)

pub side-side-requires : goal.side-side-requires
side-side-requires c = (made (goal.at.side-side-requires c).In-Word).high

pub overflow_mul-side : goal.overflow_mul-side
overflow_mul-side c = omega (arith, square_small _ _ (made (goal.at.overflow_mul-side c).In-Word).high c.side-side.ensures)

pub write_checked-requires : goal.write_checked-requires
write_checked-requires c = (made (goal.at.write_checked-requires c).In-Word, record { nine = search rules; is = c.block_row-row.ensures }, fits_open _ _ _ _ c.requires)

pub returns-then-square-side : goal.returns-then-square-side
returns-then-square-side c =
    front_short _ _ _ c.args.script.now c.args.payload.now c.args.square.now (in_ranges (made (goal.at.returns-then-square-side c).In-Word)) c.requires _ _
    (omega (arith, c.if-square-side.true, ap (λ (n : ℕ). n * n) c.side-side.ensures))
    c.write_checked.ensures

pub slice_bounds-write_checked-end-4 : goal.slice_bounds-write_checked-end-4
slice_bounds-write_checked-end-4 c = sym (length-take-le _ _ c.if-square-side.false)

pub write_checked-requires-2 : goal.write_checked-requires-2
write_checked-requires-2 c = (made (goal.at.write_checked-requires-2 c).In-Word, record { nine = search rules; is = c.block_row-row.ensures }, fits_open _ _ _ _ c.requires)

pub returns : goal.returns
returns c =
    front_lent _ _ _ c.args.script.now c.args.payload.now c.args.square.now (in_ranges (made (goal.at.returns c).In-Word)) c.requires _ _ _
    (ap (λ (n : ℕ). n * n) c.side-side.ensures) c.if-square-side.false c.write_checked-2.ensures
