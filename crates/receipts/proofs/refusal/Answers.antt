-- `refusal` meets its contract. Assumes nothing.
use Rattle.receipts.proofs.Receipts.{refusal_is}
use Rattle.receipts.proofs.refusal.Goals as goal

pub returns : goal.returns
returns c = refusal_is _ _ c.requires c.low_byte.ensures
