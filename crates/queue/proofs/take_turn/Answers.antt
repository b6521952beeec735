-- `take_turn` meets its contract: nobody, or the first of the queue. Assumes nothing.
use Rattle.general.proofs.Names.{sym, arith}
use Rattle.queue.proofs.States.{nobody_waits, first_waits, kept_rest}
use Rattle.queue.proofs.Events.{turn_short, turn_nobody, turn_serves}
use Rattle.queue.proofs.take_turn.Goals as goal

pub returns-then-state-ne-SIZE : goal.returns-then-state-ne-SIZE
returns-then-state-ne-SIZE c = sym (turn_short _ c.if-state-ne-SIZE.true)

pub returns-then-n-eq0 : goal.returns-then-n-eq0
returns-then-n-eq0 c = let long = c.if-state-ne-SIZE.false in
    sym (turn_nobody _ long (nobody_waits _ long _ c.count-n.ensures c.if-n-eq0.true))

pub returns : goal.returns
returns c =
    let long = c.if-state-ne-SIZE.false in
    rw (c.wide-head.ensures, c.wide-side.ensures, c.keep.ensures, kept_rest _ long _ c.count-n.ensures (omega arith))
    (sym (turn_serves _ long _ _ (first_waits _ long _ c.count-n.ensures (omega arith))))
