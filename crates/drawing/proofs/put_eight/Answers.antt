-- `put_eight` meets its contract. Assumes nothing.
use Rattle.drawing.proofs.Puts.{masked_bytes}
use Rattle.bits.proofs.Reading.{value_lt}
use Rattle.general.proofs.Names.{sets, refl, ap, ◌∙◌, arith}
use Rattle.drawing.proofs.put_eight.Goals as goal

pub spread-requires : goal.spread-requires
spread-requires c = omega (arith, value_lt c.args.codewords.now c.args.p.bit 8)

pub returns : goal.returns
returns c =
    let bytes = masked_bytes _ c.args.row.now c.args.p.bit c.args.p.column (omega arith) c.requires.3
    c.window.ensures c.spread.ensures
    c.eight.ensures in
    record {
      column_is = refl;
      bit_is = refl;
      is = c.put.ensures
          ∙ ap (sets c.args.square.now c.args.p.column) bytes;
    }
