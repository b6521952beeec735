-- `decode_open` meets its contract. Assumes nothing.
use Rattle.general.proofs.Names.{refl, arith}
use Rattle.block_table.proofs.Rows.{total_open}
use Rattle.decoding.proofs.Readings.{in_table, open_blocks, flags_absent}
use Rattle.decoding.proofs.decode_open.Goals as goal

pub read_open_stream-requires : goal.read_open_stream-requires
read_open_stream-requires c = (c.requires.0, c.requires.1, omega (arith, total_open _ c.requires.0.low c.requires.1), c.requires.2)

pub decode_stream-requires : goal.decode_stream-requires
decode_stream-requires c = (in_table _ _ c.requires.0, omega (arith, total_open _ c.requires.0.low c.requires.1), record { enough = λ h. absurd (omega arith) })

pub returns : goal.returns
returns c =
    let t = c.decode_stream.ensures in
    (open_blocks c.args.m _ _ _ _ c.requires.0 c.requires.1 (t.reading _ c.read_open_stream.ensures (flags_absent c.requires.2 refl)), t.small)
