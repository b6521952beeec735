-- `place_stream` meets its contract: the codewords of the stream in a buffer, then in the square. Assumes nothing.
use Rattle.general.proofs.Names.{sym, ap, ◌∙◌, ℕ, ◌*◌, arith}
use Rattle.writer.proofs.StreamToMark.{stream_placed}
use Rattle.writer.proofs.place_stream.Goals as goal

pub place_codewords-requires : goal.place_codewords-requires
place_codewords-requires c = let e = c.side-side.ensures in
    let t = c.total_codewords-total.ensures in record { square_in_bounds = (omega (arith, c.requires.1, c.requires.0.long), omega (arith, e), omega (arith, e, c.requires.0.valid.high), c.requires.1 ∙ sym (ap (λ (n : ℕ). n * n) e)); total_in_bounds = (omega (arith, t.0, c.requires.3, c.from_stream.auto), omega (arith, t.1)) }

pub returns : goal.returns
returns c =
    let t = c.total_codewords-total.ensures in
    stream_placed _ _ c.requires.0 c.args.stream.now _ _ c.args.square.now _ _ _ t.0
    c.side-side.ensures (omega (arith, t.0, c.requires.3)) c.from_stream.auto.out
    c.from_stream.ensures c.requires.1 c.place_codewords.ensures
