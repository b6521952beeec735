-- `mark` meets its contract. Assumes nothing.
use Rattle.general.proofs.Names.{sym, set_out}
use Rattle.flags.proofs.mark.Goals as goal

pub returns-then-flags-n : goal.returns-then-flags-n
returns-then-flags-n c = sym (set_out _ _ _ c.if-flags-n.true)

pub overflow_add-flags : goal.overflow_add-flags
overflow_add-flags c = record { fits = c.requires c.if-flags-n.false }
