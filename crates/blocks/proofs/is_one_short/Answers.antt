-- `is_one_short` meets its contract. Assumes nothing.
use Rattle.general.proofs.Names.{false≢true}
use Rattle.blocks.proofs.is_one_short.Goals as goal

pub returns-then-b-ne1 : goal.returns-then-b-ne1
returns-then-b-ne1 c = λ e. absurd (false≢true e)
