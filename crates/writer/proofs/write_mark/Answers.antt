-- `write_mark` meets its contract. Assumes nothing.
use Rattle.general.proofs.Names.{arith}
use Rattle.block_table.proofs.Rows.{total_small, total_open}
use Rattle.writer.proofs.write_mark.Goals as goal

pub write_mark_in-requires : goal.write_mark_in-requires
write_mark_in-requires c = let t = total_open _ c.requires.0.valid.low c.if-m-lt4.true in
    record { mark_with_layout = (c.requires.0, c.requires.1); row = (c.requires.2, omega (arith, t), omega (arith, t)) }

pub write_mark_in-requires-2 : goal.write_mark_in-requires-2
write_mark_in-requires-2 c = let t = total_small _ c.requires.0.valid.low c.requires.0.valid.high in
    record { mark_with_layout = (c.requires.0, c.requires.1); row = (c.requires.2, omega (arith, t), omega (arith, t)) }
