-- `write_groups` meets its contract. Assumes nothing.
use Rattle.general.proofs.Names.{refl, ◌∙◌, [], ◌∷◌, ◌+◌, ◌-◌, ◌*◌, arith, length, get_or, drop}
use Rattle.script.specs.Writer.{numeric_words}
use Rattle.encoding.specs.Written.{WordsLeft, group_at}
use Rattle.encoding.proofs.WordsLeft.{begun, word_room, word_done, all_done, words_left_as, three_digits, one_digit, two_digits, no_digit}
use Rattle.encoding.proofs.write_groups.Goals as goal
use Rattle.encoding.proofs.write_groups.Goals.{Else-left-eq2, In-loop-j, Then-left-eq1, Then-left-eq2}

-- three digits are left, or one, or two, or none
three : (c : In-loop-j) →
    WordsLeft 10 c.args.buf.now c.args.from (numeric_words c.args.run.now) c.loop-j.buf c.loop-j.at (group_at c.args.run.now c.loop-j.j ∷ numeric_words (drop (c.loop-j.j + 3) c.args.run.now))
three c = words_left_as (three_digits c.args.run.now c.loop-j.j (omega arith)) c.loop-j.invariant.2

one : (c : Then-left-eq1) →
    WordsLeft 10 c.args.buf.now c.args.from (numeric_words c.args.run.now) c.loop-j.buf c.loop-j.at ((get_or c.args.run.now c.loop-j.j 0 - 48) ∷ 1021 ∷ [])
one c = words_left_as (one_digit c.args.run.now c.loop-j.j (omega arith)) c.loop-j.invariant.2

two : (c : Then-left-eq2) →
    WordsLeft 10 c.args.buf.now c.args.from (numeric_words c.args.run.now) c.loop-j.buf c.loop-j.at
    (((get_or c.args.run.now c.loop-j.j 0 - 48) * 10 + (get_or c.args.run.now (c.loop-j.j + 1) 0 - 48)) ∷ 1022 ∷ [])
two c = words_left_as (two_digits c.args.run.now c.loop-j.j (omega arith)) c.loop-j.invariant.2

none : (c : Else-left-eq2) →
    WordsLeft 10 c.args.buf.now c.args.from (numeric_words c.args.run.now) c.loop-j.buf c.loop-j.at (1023 ∷ [])
none c = words_left_as (no_digit c.args.run.now c.loop-j.j (omega arith)) c.loop-j.invariant.2

pub loop-j-init : goal.loop-j-init
loop-j-init c = (refl, omega arith, begun 10 c.args.buf.now c.args.from (numeric_words c.args.run.now))

pub overflow_sub-run : goal.overflow_sub-run
overflow_sub-run c = omega arith

pub group-requires : goal.group-requires
group-requires c = omega arith

pub put-at-requires : goal.put-at-requires
put-at-requires c =
    let r = word_room (8 * length c.args.buf.now) (three (goal.at.put-at-requires c).In-loop-j) (omega arith) in
    (omega arith, omega arith, omega arith)

pub overflow_add-j : goal.overflow_add-j
overflow_add-j c = omega arith

pub loop-j-smaller : goal.loop-j-smaller
loop-j-smaller c = omega arith

pub loop-j-preserved : goal.loop-j-preserved
loop-j-preserved c = (c.put-at.auto.buf ∙ c.loop-j.invariant.0, omega arith, word_done (three (goal.at.loop-j-preserved c).In-loop-j) (rw c.group.ensures.0 at c.put-at.ensures))

pub overflow_sub-left : goal.overflow_sub-left
overflow_sub-left c = omega arith

pub digit-requires : goal.digit-requires
digit-requires c = omega arith

pub put-next-requires : goal.put-next-requires
put-next-requires c =
    let r = word_room (8 * length c.args.buf.now) (one (goal.at.put-next-requires c).Then-left-eq1) (omega arith) in
    (omega arith, omega arith, omega arith)

pub put-requires : goal.put-requires
put-requires c =
    let r = word_room (8 * length c.args.buf.now) (word_done (one (goal.at.put-requires c).Then-left-eq1) (rw c.digit.ensures.0 at c.put-next.ensures)) (omega arith) in
    (omega arith, omega arith, omega arith)

pub shape_of-buf-then-left-eq1 : goal.shape_of-buf-then-left-eq1
shape_of-buf-then-left-eq1 c = c.put.auto.buf ∙ c.put-next.auto.buf ∙ c.loop-j.invariant.0

pub returns-then-left-eq1 : goal.returns-then-left-eq1
returns-then-left-eq1 c = all_done (word_done (word_done (one (goal.at.returns-then-left-eq1 c).Then-left-eq1) (rw c.digit.ensures.0 at c.put-next.ensures)) c.put.ensures)

pub digit-requires-then-left-eq2 : goal.digit-requires-then-left-eq2
digit-requires-then-left-eq2 c = omega arith

pub overflow_mul-digit : goal.overflow_mul-digit
overflow_mul-digit c = omega arith

pub overflow_add-j-then-left-eq2 : goal.overflow_add-j-then-left-eq2
overflow_add-j-then-left-eq2 c = omega arith

pub digit-requires-then-left-eq2-2 : goal.digit-requires-then-left-eq2-2
digit-requires-then-left-eq2-2 c = omega arith

pub overflow_add-digit : goal.overflow_add-digit
overflow_add-digit c = omega arith

pub put-next-requires-then-left-eq2 : goal.put-next-requires-then-left-eq2
put-next-requires-then-left-eq2 c =
    let r = word_room (8 * length c.args.buf.now) (two (goal.at.put-next-requires-then-left-eq2 c).Then-left-eq2) (omega arith) in
    (omega arith, omega arith, omega arith)

pub put-requires-then-left-eq2 : goal.put-requires-then-left-eq2
put-requires-then-left-eq2 c =
    let r = word_room (8 * length c.args.buf.now) (word_done (two (goal.at.put-requires-then-left-eq2 c).Then-left-eq2) (rw (c.digit-then-left-eq2.ensures.0, c.digit-then-left-eq2-2.ensures.0) at c.put-next-then-left-eq2.ensures))
    (omega arith) in
    (omega arith, omega arith, omega arith)

pub shape_of-buf-then-left-eq2 : goal.shape_of-buf-then-left-eq2
shape_of-buf-then-left-eq2 c = c.put-then-left-eq2.auto.buf ∙ c.put-next-then-left-eq2.auto.buf ∙ c.loop-j.invariant.0

pub returns-then-left-eq2 : goal.returns-then-left-eq2
returns-then-left-eq2 c = all_done (word_done (word_done (two (goal.at.returns-then-left-eq2 c).Then-left-eq2) (rw (c.digit-then-left-eq2.ensures.0, c.digit-then-left-eq2-2.ensures.0) at c.put-next-then-left-eq2.ensures)) c.put-then-left-eq2.ensures)

pub put-requires-2 : goal.put-requires-2
put-requires-2 c =
    let r = word_room (8 * length c.args.buf.now) (none (goal.at.put-requires-2 c).Else-left-eq2) (omega arith) in
    (omega arith, omega arith, omega arith)

pub shape_of-buf : goal.shape_of-buf
shape_of-buf c = c.put-2.auto.buf ∙ c.loop-j.invariant.0

pub returns : goal.returns
returns c = all_done (word_done (none (goal.at.returns c).Else-left-eq2) c.put-2.ensures)
