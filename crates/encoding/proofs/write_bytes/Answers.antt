-- `write_bytes` meets its contract. Assumes nothing.
use Rattle.general.proofs.Names.{◌∙◌, ◌∷◌, ◌+◌, ◌*◌, arith, length, get_or, drop}
use Rattle.encoding.specs.Written.{WordsLeft}
use Rattle.encoding.proofs.WordsLeft.{word_room, word_done, all_done, words_left_as, next_byte, no_byte}
use Rattle.encoding.proofs.write_bytes.Goals as goal
use Rattle.encoding.proofs.write_bytes.Goals.{In-loop-j}

-- the byte that is next
next : (c : In-loop-j) → WordsLeft 8 c.args.buf.now c.args.from
    c.args.run.now c.loop-j.buf c.loop-j.at
    (get_or c.args.run.now c.loop-j.j 0 ∷ drop (c.loop-j.j + 1)
    c.args.run.now)
next c = words_left_as (next_byte _ c.loop-j.j (omega arith)) c.loop-j.invariant.2

pub bounds-run-j : goal.bounds-run-j
bounds-run-j c = omega arith

pub put-at-requires : goal.put-at-requires
put-at-requires c =
    let r = word_room (8 * length c.args.buf.now) (next (goal.at.put-at-requires c).In-loop-j) (omega arith) in
    (omega arith, omega arith, omega arith)

pub overflow_add-j : goal.overflow_add-j
overflow_add-j c = omega arith

pub loop-j-smaller : goal.loop-j-smaller
loop-j-smaller c = omega arith

pub loop-j-preserved : goal.loop-j-preserved
loop-j-preserved c = (c.put-at.auto.buf ∙ c.loop-j.invariant.0, omega arith, word_done (next (goal.at.loop-j-preserved c).In-loop-j) (rw c.as_usize.ensures.0 at c.put-at.ensures))

pub shape_of-buf : goal.shape_of-buf
shape_of-buf c = c.loop-j.invariant.0

pub returns : goal.returns
returns c = all_done (words_left_as (no_byte _ c.loop-j.j (omega arith)) c.loop-j.invariant.2)
