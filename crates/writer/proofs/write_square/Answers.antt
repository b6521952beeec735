-- `write_square` meets its contract: 1 where there is no word, else what the others answer. Assumes nothing.
use Rattle.marks.proofs.Starts.{no_word}
use Rattle.writer.specs.Inner.{ValidMark}
use Rattle.writer.proofs.Starts.{valid}
use Rattle.writer.proofs.Refusals.{answers_one}
use borrow.Author.Rules.{rules}
use Rattle.writer.proofs.write_square.Goals as goal
use Rattle.writer.proofs.write_square.Goals.{In-Word}

-- version, level and mask are in their ranges, and the word is theirs
made : (c : In-Word) →
    ValidMark (record { version = c.args.version; level = c.args.level; mask = c.args.mask; word = c.in-Word.word })
made c = valid _ _ _ _ c.info_bits.ensures _ c.in-Word.is

pub returns-in_default : goal.returns-in_default
returns-in_default c =
    answers_one _ _ _ c.args.script.now c.args.payload.now c.args.square.now
    (no_word _ _ _ _ c.info_bits.ensures c.in_default.is)

pub block_row-row-requires : goal.block_row-row-requires
block_row-row-requires c = ((made (goal.at.block_row-row-requires c).In-Word).low, (made (goal.at.block_row-row-requires c).In-Word).high, (made (goal.at.block_row-row-requires c).In-Word).level)

pub script_refusal-text-requires : goal.script_refusal-text-requires
script_refusal-text-requires c = (made (goal.at.script_refusal-text-requires c).In-Word, record { nine = search rules; is = c.block_row-row.ensures })

pub write_checked-requires : goal.write_checked-requires
write_checked-requires c = (made (goal.at.write_checked-requires c).In-Word, record { nine = search rules; is = c.block_row-row.ensures }, c.script_refusal-text.ensures)
