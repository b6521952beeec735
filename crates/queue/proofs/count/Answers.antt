-- `count` meets its contract: one entry after the other is found to wait. Assumes nothing.
use Rattle.general.proofs.Names.{◌≡◌, sym, ◌∙◌, arith}
use Rattle.queue.specs.Queue.{entry_refusal}
use Rattle.queue.specs.Inner.{front}
use Rattle.queue.proofs.Loops.{here, count_start, count_stop, count_next, count_end}
use Rattle.queue.proofs.count.Goals as goal
use Rattle.queue.proofs.count.Goals.{After-refusal}

-- what was answered for the entry
answered : (c : After-refusal) →
    c.refusal.result ≡ entry_refusal (front c.loop-n.n c.args.state.now) (here _ _ c.loop-n.invariant c.requires)
answered c = rw (c.wide.ensures, c.wide-in-loop-n.ensures) at c.refusal.ensures

pub loop-n-init : goal.loop-n-init
loop-n-init c = count_start _

pub returns-then-refusal-ne0 : goal.returns-then-refusal-ne0
returns-then-refusal-ne0 c = count_stop _ _ c.loop-n.invariant c.requires (omega arith) (λ e. c.if-refusal-ne0.true (answered (goal.at.returns-then-refusal-ne0 c).After-refusal ∙ e))

pub loop-n-preserved : goal.loop-n-preserved
loop-n-preserved c = count_next _ _ c.loop-n.invariant c.requires (omega arith) (sym (answered (goal.at.loop-n-preserved c).After-refusal) ∙ c.if-refusal-ne0.false)

pub returns : goal.returns
returns c = count_end _ _ c.loop-n.invariant c.requires (omega arith)
