-- `hand_in` meets its contract: refusals, and else the head behind all others. Assumes nothing.
use Rattle.general.proofs.Names.{◌≡◌, sym, ap, ◌∙◌, ◌≤◌, arith, length-set}
use Rattle.queue.specs.Queue.{waiting, entry_refusal, queue_of, hand_in}
use Rattle.queue.proofs.Queues.{comes, side_low, room_for_one}
use Rattle.queue.proofs.States.{queue_accepted, counted_length, stored_last}
use Rattle.queue.proofs.Events.{hand_in_short, hand_in_refused, hand_in_accepted}
use Rattle.queue.proofs.hand_in.Goals as goal
use Rattle.queue.proofs.hand_in.Goals.{After-refusal-number}

-- what was answered is the refusal behind the queue
answered : (c : After-refusal-number) →
    c.refusal-number.result ≡ entry_refusal (queue_of c.args.state.now) (waiting c.args.head c.args.side)
answered c = rw c.count-n.ensures.is c.refusal-number.ensures

-- nothing refuses the head
unrefused : (c : After-refusal-number) → c.refusal-number.result ≡ 0 →
    entry_refusal (queue_of c.args.state.now) (waiting c.args.head c.args.side) ≡ 0
unrefused c none = sym (answered c) ∙ none

-- so there is room for it
room : (c : After-refusal-number) → c.refusal-number.result ≡ 0 → c.count-n.result ≤ 5
room c none = omega (
  arith,
  counted_length _ c.if-state-ne-SIZE.false _ c.count-n.ensures,
  room_for_one _ _ (queue_accepted c.args.state.now) (unrefused c none),
)

pub returns-then-state-ne-SIZE : goal.returns-then-state-ne-SIZE
returns-then-state-ne-SIZE c = sym (hand_in_short _ c.if-state-ne-SIZE.true _ _)

pub returns-then-number-ne0 : goal.returns-then-number-ne0
returns-then-number-ne0 c = sym (hand_in_refused _ c.if-state-ne-SIZE.false _ _ _ (answered (goal.at.returns-then-number-ne0 c).After-refusal-number) c.if-number-ne0.true)

pub overflow_cast-state : goal.overflow_cast-state
overflow_cast-state c = omega (arith, (comes _ _ (unrefused (goal.at.overflow_cast-state c).After-refusal-number (omega arith))).low)

pub bounds-state-n : goal.bounds-state-n
bounds-state-n c = omega (arith, room (goal.at.bounds-state-n c).After-refusal-number (omega arith), c.keep.auto.state)

pub overflow_cast-state-2 : goal.overflow_cast-state-2
overflow_cast-state-2 c = omega (arith, side_low _ (comes _ _ (unrefused (goal.at.overflow_cast-state-2 c).After-refusal-number (omega arith))).sided)

pub bounds-state-n-2 : goal.bounds-state-n-2
bounds-state-n-2 c = rw length-set (omega (arith, room (goal.at.bounds-state-n-2 c).After-refusal-number (omega arith), c.keep.auto.state))

pub returns : goal.returns
returns c =
    let long = c.if-state-ne-SIZE.false in
    rw c.keep.ensures
    (sym (hand_in_accepted _ long _ _ (unrefused (goal.at.returns c).After-refusal-number (omega arith))
    ∙ ap (hand_in 0) (sym (stored_last _ long _ c.count-n.ensures _ _ (room (goal.at.returns c).After-refusal-number (omega arith))))))
