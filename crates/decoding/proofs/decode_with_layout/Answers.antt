-- `decode_with_layout` meets its contract: with unknown modules, and without, small and large. Assumes nothing.
use Rattle.general.proofs.Names.{refl, arith}
use Rattle.block_table.proofs.Rows.{total_small, total_ten}
use Rattle.decoding.proofs.Readings.{in_table, flags_absent}
use Rattle.decoding.proofs.decode_with_layout.Goals as goal

pub read_stream-requires : goal.read_stream-requires
read_stream-requires c = (c.requires.0, c.requires.1, c.requires.2, omega (arith, total_ten _ c.requires.0.low c.if-m-le10.true))

pub decode_stream-requires : goal.decode_stream-requires
decode_stream-requires c = (in_table _ _ c.requires.0, omega (arith, total_ten _ c.requires.0.low c.if-m-le10.true), record { enough = λ h. absurd (omega arith) })

pub returns-then-m-le10 : goal.returns-then-m-le10
returns-then-m-le10 c =
    let t = c.decode_stream.ensures in
    (t.reading _ c.read_stream.ensures (flags_absent (c.requires.3.none c.if-unknown.false) refl), t.small)

pub read_stream-requires-2 : goal.read_stream-requires-2
read_stream-requires-2 c = (c.requires.0, c.requires.1, c.requires.2, omega (arith, total_small _ c.requires.0.low c.requires.0.high))

pub decode_stream-requires-2 : goal.decode_stream-requires-2
decode_stream-requires-2 c = (in_table _ _ c.requires.0, omega (arith, total_small _ c.requires.0.low c.requires.0.high), record { enough = λ h. absurd (omega arith) })

pub returns : goal.returns
returns c =
    let t = c.decode_stream-2.ensures in
    (t.reading _ c.read_stream-2.ensures (flags_absent (c.requires.3.none c.if-unknown.false) refl), t.small)
