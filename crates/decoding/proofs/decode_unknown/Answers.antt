-- `decode_unknown` meets its contract. Assumes nothing.
use Rattle.general.proofs.Names.{arith}
use Rattle.block_table.proofs.Rows.{total_small}
use Rattle.decoding.proofs.Readings.{in_table, flags_some}
use Rattle.decoding.proofs.decode_unknown.Goals as goal

pub read_flags-requires : goal.read_flags-requires
read_flags-requires c = (c.requires.0, c.requires.1, c.requires.2, omega (arith, total_small _ c.requires.0.low c.requires.0.high))

pub read_stream-requires : goal.read_stream-requires
read_stream-requires c = (c.requires.0, c.requires.1, c.requires.2, omega (arith, total_small _ c.requires.0.low c.requires.0.high))

pub decode_stream-requires : goal.decode_stream-requires
decode_stream-requires c =
    let t = total_small _ c.requires.0.low c.requires.0.high in
    (in_table _ _ c.requires.0, omega (arith, t, c.read_stream.auto), record { enough = λ h. omega (arith, t, c.read_flags.auto) })

pub returns : goal.returns
returns c =
    let t = c.decode_stream.ensures in
    (t.reading _ c.read_stream.ensures (flags_some c.read_flags.ensures (omega (arith, c.read_flags.auto))), t.small)
