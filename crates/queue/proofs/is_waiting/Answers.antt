-- `is_waiting` meets its contract: one entry after the other is looked at. Assumes nothing.
use Rattle.general.proofs.Names.{sym, ◌∙◌, arith}
use Rattle.queue.proofs.Loops.{among_start, among_here, among_next, among_end}
use Rattle.queue.proofs.is_waiting.Goals as goal

pub loop-i-init : goal.loop-i-init
loop-i-init c = among_start _ _ _

pub returns-then-wide-head : goal.returns-then-wide-head
returns-then-wide-head c = sym (among_here _ _ _ _ c.loop-i.invariant c.requires (omega arith) (sym c.wide.ensures ∙ c.if-wide-head.true))

pub loop-i-preserved : goal.loop-i-preserved
loop-i-preserved c = among_next _ _ _ _ c.loop-i.invariant c.requires (omega arith) (λ e. c.if-wide-head.false (c.wide.ensures ∙ e))

pub returns : goal.returns
returns c = sym (among_end _ _ _ _ c.loop-i.invariant c.requires (omega arith))
