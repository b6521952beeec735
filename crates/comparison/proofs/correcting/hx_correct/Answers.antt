-- `hx_correct` meets its contract. Assumes nothing.
use Rattle.general.proofs.Names.{◌∙◌}
use Rattle.comparison.proofs.correcting.hx_correct.Goals as goal

pub returns : goal.returns
returns c = c.numbers.ensures.are _ ∙ c.correct.ensures
