-- `put` meets its contract. Assumes nothing.
use Rattle.bits.proofs.Words.{length_low}
use Rattle.encoding.proofs.put.Goals as goal

pub returns : goal.returns
returns c = record { behind = rw length_low; bits = c.write_bits.ensures }
