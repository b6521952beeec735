-- `correct_batch` meets its contract: with flags, and without, with a table or without. Assumes nothing.
use Rattle.general.proofs.Names.{ap, ◌∙◌, arith}
use Rattle.block_table.specs.Blocks.{total_size}
use Rattle.block_table.proofs.Rows.{total_batch}
use Rattle.blocks.proofs.Rule.{only_is}
use Rattle.blocks.proofs.Corrects.{without_flags}
use Rattle.blocks.proofs.correct_batch.Goals as goal

pub correct_many_flagged-requires : goal.correct_many_flagged-requires
correct_many_flagged-requires c = (c.requires.2, c.requires.3.enough (omega arith))

pub correct_one-requires : goal.correct_one-requires
correct_one-requires c = let b = c.args.b in
    let one = only_is b (c.is_one_short.ensures c.if-is_one_short.true) in
    omega (arith, ap total_size one ∙ total_batch 1 b.info b.parity)

pub returns-then-is_one_short : goal.returns-then-is_one_short
returns-then-is_one_short c =
    rw (only_is c.args.b (c.is_one_short.ensures c.if-is_one_short.true))
    (without_flags _ (omega arith) c.correct_one.ensures)

pub returns : goal.returns
returns c = without_flags _ (omega arith) c.correct_many.ensures
