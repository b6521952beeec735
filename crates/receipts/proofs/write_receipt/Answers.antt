-- `write_receipt` meets its contract. Assumes nothing.
use Rattle.general.proofs.Names.{◌∙◌}
use Rattle.receipts.proofs.Receipts.{in_accepted, in_refused}
use Rattle.receipts.proofs.write_receipt.Goals as goal

pub returns-then-number-eq0 : goal.returns-then-number-eq0
returns-then-number-eq0 c = c.put.ensures ∙ c.accepted-bytes.ensures ∙ in_accepted _ _ c.if-number-eq0.true

pub returns : goal.returns
returns c = c.put-2.ensures ∙ c.refusal-bytes.ensures ∙ in_refused _ _ c.if-number-eq0.false
