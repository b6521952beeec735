-- `refuse` meets its contract. Assumes nothing.
use Rattle.general.proofs.Names.{refl, ◌∙◌}
use Rattle.receipts.proofs.refuse.Goals as goal

pub returns : goal.returns
returns c = (refl, c.put.ensures ∙ c.refusal-bytes.ensures)
