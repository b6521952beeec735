-- `refusal` meets its contract. Assumes nothing.
use Rattle.general.proofs.Names.{◌≡◌, sym, ap, ◌∙◌, arith, lt-ltb, le-ltb}
use Rattle.symbol.specs.Version.{side_refusal, side_number}
use Rattle.queue.specs.Queue.{waiting, entry_refusal}
use Rattle.queue.specs.Inner.{front}
use Rattle.queue.proofs.refusal.Goals as goal
use Rattle.queue.proofs.refusal.Goals.{Else-is_waiting}

-- only the side is left
of_side : (c : Else-is_waiting) → entry_refusal (front c.args.n c.args.state.now) (waiting c.args.head c.args.side) ≡ side_refusal c.args.side
unfolding entry_refusal
of_side c = rw (le-ltb 5 c.args.head (omega arith), ← c.is_waiting.ensures, c.if-is_waiting.false)

pub returns-then-head-ge-HEADS : goal.returns-then-head-ge-HEADS
unfolding entry_refusal
returns-then-head-ge-HEADS c = rw (lt-ltb 5 c.args.head (omega arith))

pub returns-then-is_waiting : goal.returns-then-is_waiting
unfolding entry_refusal
returns-then-is_waiting c = rw (le-ltb 5 c.args.head (omega arith), ← c.is_waiting.ensures, c.if-is_waiting.true)

pub returns-in-Found : goal.returns-in-Found
returns-in-Found c = sym (of_side (goal.at.returns-in-Found c).Else-is_waiting ∙ sym c.from_side.ensures.0 ∙ ap side_number c.in-Found.is)

pub returns-in-NoVersion : goal.returns-in-NoVersion
returns-in-NoVersion c = sym (of_side (goal.at.returns-in-NoVersion c).Else-is_waiting ∙ sym c.from_side.ensures.0 ∙ ap side_number c.in-NoVersion.is)
