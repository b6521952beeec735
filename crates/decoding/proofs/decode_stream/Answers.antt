-- `decode_stream` meets its contract. Assumes nothing.
use Rattle.general.proofs.Names.{arith, rules}
use Rattle.marks.proofs.Starts.{row_total, row_own, row_data}
use Rattle.decoding.proofs.Readings.{count_small, blocks_refused, blocks_corrected}
use Rattle.decoding.proofs.decode_stream.Goals as goal

pub correct_blocks-requires : goal.correct_blocks-requires
correct_blocks-requires c =
    let m = c.args.m in
    let f = c.requires.0 in
    let row = c.block_row-row.ensures in
    let long = row_total m.version m.level f.low f.high f.level _ row in (
      search rules,
      row_own _ _ f.low f.high f.level _ row,
      omega (arith, long, c.requires.1),
      record { enough = λ h. omega (arith, c.requires.2.enough h, long) },
    )

pub decode_segments-requires : goal.decode_segments-requires
decode_segments-requires c =
    let m = c.args.m in
    let f = c.requires.0 in
    let row = c.block_row-row.ensures in
    let long = row_total m.version m.level f.low f.high f.level _ row in (
      search rules,
      omega (arith, long, c.requires.1),
      row_data _ _ f.low f.high f.level _ row,
      count_small m f _ row _ c.in-Corrected.count _ _ c.in-Corrected.is (λ z. (c.correct_blocks.ensures.1 z).0),
    )

pub returns-in-Corrected : goal.returns-in-Corrected
returns-in-Corrected c =
    blocks_corrected c.args.m c.requires.0 _ c.block_row-row.ensures _ _ _ _ c.correct_blocks.result c.in-Corrected.count _ _ _ _ _ c.in-Corrected.is
    c.correct_blocks.ensures.0 c.correct_blocks.ensures.1 c.decode_segments.ensures

pub returns-in-Refused : goal.returns-in-Refused
returns-in-Refused c =
    let q = c.correct_blocks.ensures in
    blocks_refused c.args.m c.requires.0 _ c.block_row-row.ensures _ _ _ _ _ c.in-Refused.number _ c.in-Refused.is q.3 q.0 c.refused.ensures
