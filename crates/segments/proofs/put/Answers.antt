-- `put` meets its contract. Assumes nothing.
use Rattle.general.proofs.Names.{sym, set_out}
use Rattle.segments.proofs.put.Goals as goal

pub returns-else-n-out : goal.returns-else-n-out
returns-else-n-out c = sym (set_out _ _ _ c.if-n-out.false)
