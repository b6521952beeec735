-- `bit` meets its contract. Assumes nothing.
use Rattle.bits.proofs.Reading.{bit_at}
use Rattle.general.proofs.Names.{◌∙◌, and_mask}
use Rattle.bits.proofs.bit.Goals as goal

pub returns : goal.returns
returns c = rw bit_at (c.as_usize.ensures.0 ∙ and_mask _ 1)
