-- `bit` meets its contract. Assumes nothing.
use Rattle.information.specs.Inner.{bit_of}
use Rattle.general.proofs.Names.{refl}
use Rattle.information.proofs.bit.Goals as goal

pub returns : goal.returns
unfolding bit_of
returns c = refl
