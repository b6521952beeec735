-- `write_batch` meets its contract: with a table or without. Assumes nothing.
use Rattle.general.proofs.Names.{arith}
use Rattle.blocks.proofs.Rule.{batch_fit, only_is}
use Rattle.blocks.proofs.Transfers.{only_room}
use Rattle.block_writer.proofs.write_batch.Goals as goal

pub write_one-requires : goal.write_one-requires
write_one-requires c =
    let one = c.is_one_short.ensures c.if-is_one_short.true in
    let fit = batch_fit _ _ _ c.requires.2 (omega (arith, one)) in
    let room = only_room c.args.b one c.requires.3 in
    (fit.0, fit.2, room.0, room.1)

pub returns-then-is_one_short : goal.returns-then-is_one_short
returns-then-is_one_short c = let one = c.is_one_short.ensures c.if-is_one_short.true in
    rw (only_is c.args.b one) c.write_one.ensures
