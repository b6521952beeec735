-- `decode_or_refuse` meets its contract. Assumes nothing.
use Rattle.decoding.proofs.Readings.{too_few, enough, with_blocks}
use Rattle.decoding.proofs.decode_or_refuse.Goals as goal

pub returns-then-data_modules-total_codewords : goal.returns-then-data_modules-total_codewords
returns-then-data_modules-total_codewords c =
    too_few c.args.m _ _ c.requires.0 c.requires.1 _ _ c.data_modules.ensures
    c.total_codewords.ensures.0 _ _ c.if-data_modules-total_codewords.true _ c.refused.ensures

pub decode_with_layout-requires : goal.decode_with_layout-requires
decode_with_layout-requires c = (
  c.requires.0,
  c.requires.1,
  enough c.args.m _ _ c.requires.0 c.requires.1 _ _ c.data_modules.ensures
      c.total_codewords.ensures.0 c.args.payload.now c.args.script.now c.if-data_modules-total_codewords.false,
  c.requires.2,
)

pub returns : goal.returns
returns c =
    let q = c.decode_with_layout.ensures in
    (with_blocks c.args.m _ _ c.requires.0 c.requires.1 _ _ c.data_modules.ensures c.total_codewords.ensures.0 _ _ c.if-data_modules-total_codewords.false _ q.0, q.1)
