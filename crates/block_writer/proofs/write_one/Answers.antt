-- `write_one` meets its contract: data in their place, then their parity. Assumes nothing.
use Rattle.general.proofs.Names.{refl}
use Rattle.blocks.proofs.Transfers.{one_written}
use Rattle.block_writer.proofs.write_one.Goals as goal

pub returns : goal.returns
returns c =
    let b = c.args.b in
    one_written b.info b.parity c.args.to _ c.args.from c.args.«data».now c.args.stream.now _ _ refl
    c.requires.2 c.requires.3 c.copy.ensures c.write_short.ensures
