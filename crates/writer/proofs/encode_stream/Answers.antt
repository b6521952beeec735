-- `encode_stream` meets its contract: the encoded data in the blocks of the row. Assumes nothing.
use Rattle.general.proofs.Names.{arith}
use Rattle.writer.proofs.StreamToMark.{stream_encoded}
use Rattle.writer.proofs.encode_stream.Goals as goal

pub write_blocks-requires : goal.write_blocks-requires
write_blocks-requires c = let o = c.requires.row_len in
    (o.0, o.1, o.2, omega (arith, c.encode.auto, o.3))

pub returns : goal.returns
returns c =
    stream_encoded c.args.script.now c.args.payload.now _ _ c.args.stream.now _ _ c.requires.row_len.3
    c.encode.ensures c.requires.row_len.2 c.write_blocks.auto.stream c.write_blocks.ensures
