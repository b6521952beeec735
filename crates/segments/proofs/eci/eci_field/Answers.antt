-- `eci_field` meets its contract. Assumes nothing.
use Rattle.general.proofs.Names.{◌+◌, arith}
use Rattle.bits.proofs.Words.{word_read, word_few}
use Rattle.segments.proofs.Designators.{field_cut, field_read}
use Rattle.segments.proofs.eci.eci_field.Goals as goal

pub returns-in_default : goal.returns-in_default
returns-in_default c =
    field_cut c.args.s.now c.args.from c.args.k c.args.w (omega arith)
    (word_few c.args.w (c.args.from + c.args.k) c.args.s.now c.read_bits-got.result c.read_bits-got.ensures c.in_default.is)

pub returns : goal.returns
returns c =
    field_read c.args.s.now c.args.from c.args.k c.args.w c.in-Value.v (omega arith)
    (word_read c.args.w (c.args.from + c.args.k) c.args.s.now c.read_bits-got.result c.read_bits-got.ensures c.in-Value.v (omega arith) (omega arith) c.in-Value.is)
