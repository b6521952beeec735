-- `first_byte` meets its contract. Assumes nothing.
use Rattle.general.proofs.Names.{arith, refl}
use Rattle.segments.specs.Segments.{first_byte}
use Rattle.segments.proofs.gb18030.first_byte.Goals as goal

pub returns : goal.returns
unfolding first_byte
returns c = (omega arith, refl)
