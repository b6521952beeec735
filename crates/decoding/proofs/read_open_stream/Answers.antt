-- `read_open_stream` meets its contract. Assumes nothing.
use Rattle.general.proofs.Names.{◌∙◌, refl, sym, ap, List, ◌++◌, ℕ, arith, drop}
use Rattle.codewords.specs.Codewords.{to_stream}
use Rattle.block_table.proofs.Rows.{total_open}
use Rattle.small_marks.proofs.Open.{open_enough}
use Rattle.marks.proofs.Modules.{bits_are, codewords_taken}
use Rattle.decoding.proofs.Readings.{enough_bits, stream_is, open_layout}
use Rattle.decoding.proofs.read_open_stream.Goals as goal

pub read_open-requires : goal.read_open-requires
read_open-requires c = let f = c.requires.0 in
    record {
      le_version = (f.low, omega (arith, c.requires.1), f.mask, f.size, c.requires.3);
      total_in_bounds = (
        omega (arith, c.total_codewords-total.ensures.0, total_open _ f.low c.requires.1),
        enough_bits c.args.m _ _ f (open_layout _) _ refl _ c.total_codewords-total.result
            c.total_codewords-total.ensures.0 (open_enough _ f.low (omega (arith, c.requires.1))),
      );
    }

pub to_stream-requires : goal.to_stream-requires
to_stream-requires c =
    let total = c.total_codewords-total.ensures in
    let t = total_open _ c.requires.0.low c.requires.1 in
    (omega (arith, total.0, c.requires.2), omega (arith, total.0, t, c.read_open.auto), omega (arith, total.1))

pub returns : goal.returns
returns c =
    let sq = c.args.square.now in
    stream_is c.args.m _ _ c.requires.0 (open_layout _) sq refl _ _ _ _ (sym (bits_are sq c.requires.3)) refl c.total_codewords-total.ensures.0
    (c.to_stream.ensures ∙ ap (λ (x : List ℕ). to_stream x ++ drop c.total_codewords-total.result c.args.stream.now)
    (codewords_taken _ _ _ _ c.read_open.ensures))
