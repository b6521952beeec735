-- `pad` meets its contract. Assumes nothing.
use Rattle.general.proofs.Names.{arith}
use Rattle.encoding.proofs.Zeros.{padded}
use Rattle.encoding.proofs.pad.Goals as goal

pub write_bits-requires : goal.write_bits-requires
write_bits-requires c = (omega arith, omega arith, omega arith)

pub overflow_add-at : goal.overflow_add-at
overflow_add-at c = omega arith

pub clear-requires : goal.clear-requires
clear-requires c = omega arith

pub returns : goal.returns
returns c =
    padded _ _ _ c.args.at c.write_bits.auto.buf (omega arith) c.write_bits.ensures
    c.clear.ensures
