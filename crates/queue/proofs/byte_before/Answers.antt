-- `byte_before` meets its contract. Assumes nothing.
use Rattle.general.proofs.Names.{lt-ltb, le-ltb}
use Rattle.queue.proofs.byte_before.Goals as goal

pub returns-then-at-end : goal.returns-then-at-end
returns-then-at-end c = rw (lt-ltb _ _ c.if-at-end.true)

pub returns-else-at-end : goal.returns-else-at-end
returns-else-at-end c = rw (le-ltb _ _ c.if-at-end.false)
