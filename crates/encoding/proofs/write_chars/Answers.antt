-- `write_chars` meets its contract. Assumes nothing.
use Rattle.general.proofs.Names.{refl, ◌∙◌, not, [], ◌∷◌, ◌+◌, ◌*◌, arith, length, drop}
use Rattle.script.specs.Characters.{words_of, switch_of, begins_in}
use Rattle.encoding.specs.Written.{WordsLeft}
use Rattle.encoding.proofs.WordsLeft.{Behind, begun, word_room, word_done, all_done, words_left_as, same_words, other_words, never_lacking, end_words}
use Rattle.encoding.proofs.write_chars.Goals as goal
use Rattle.encoding.proofs.write_chars.Goals.{After-put-next, In-Other, In-Same}

-- behind a character of the present subset or region, and behind one of the other
same : (c : In-Same) →
    Behind c.args.run.now c.args.mode (c.loop-j.j + c.step-by.result) c.width-w.result c.args.buf.now c.args.from
    (words_of c.args.mode (begins_in c.args.mode) c.args.run.now) c.loop-j.buf c.loop-j.at
    (c.in-Same.c ∷ []) c.loop-j.first
unfolding begins_in
same c = same_words c.args.run.now c.args.mode c.loop-j.first c.loop-j.j c.character_at-g.ensures c.step-by.ensures.0 (omega arith)
    c.loop-j.invariant.2 c.loop-j.invariant.4 c.in-Same.is

other : (c : In-Other) →
    Behind c.args.run.now c.args.mode (c.loop-j.j + c.step-by.result) c.width-w.result c.args.buf.now c.args.from
    (words_of c.args.mode (begins_in c.args.mode) c.args.run.now) c.loop-j.buf c.loop-j.at
    (switch_of c.args.mode ∷ c.in-Other.c ∷ []) (not c.loop-j.first)
unfolding begins_in
other c = other_words c.args.run.now c.args.mode c.loop-j.first c.loop-j.j c.character_at-g.ensures c.step-by.ensures.0 (omega arith)
    c.loop-j.invariant.2 c.loop-j.invariant.4 c.in-Other.is

-- the switch is written
switched : (c : After-put-next) →
    WordsLeft c.width-w.result c.args.buf.now c.args.from (words_of c.args.mode (begins_in c.args.mode) c.args.run.now) c.put-next.new.buf c.put-next.result
    (c.in-Other.c ∷ words_of c.args.mode (not c.loop-j.first) (drop (c.loop-j.j + c.step-by.result) c.args.run.now))
unfolding begins_in
switched c =
    word_done (other_words c.args.run.now c.args.mode c.loop-j.first c.loop-j.j c.character_at-g.ensures c.step-by.ensures.0 (omega arith)
    c.loop-j.invariant.2 c.loop-j.invariant.4 c.in-Other.is).words_left (rw c.switch_word.ensures at c.put-next.ensures)

pub loop-j-init : goal.loop-j-init
unfolding begins_in
loop-j-init c = (
  refl,
  omega arith,
  c.requires.1,
  rw c.width-w.ensures.0 c.requires.2,
  begun c.width-w.result c.args.buf.now c.args.from
      (words_of c.args.mode (begins_in c.args.mode) c.args.run.now),
)

pub character_at-g-requires : goal.character_at-g-requires
character_at-g-requires c = omega arith

pub put-at-requires : goal.put-at-requires
unfolding begins_in
put-at-requires c =
    let r = word_room (8 * length c.loop-j.buf) (same (goal.at.put-at-requires c).In-Same).words_left (rw c.loop-j.invariant.0 c.loop-j.invariant.3) in
    (omega arith, r, omega arith)

pub overflow_add-j : goal.overflow_add-j
overflow_add-j c = omega arith

pub loop-j-smaller-in-Same : goal.loop-j-smaller-in-Same
loop-j-smaller-in-Same c = let t = same (goal.at.loop-j-smaller-in-Same c).In-Same in omega arith

pub loop-j-preserved-in-Same : goal.loop-j-preserved-in-Same
unfolding begins_in
loop-j-preserved-in-Same c =
    let t = same (goal.at.loop-j-preserved-in-Same c).In-Same in
    (c.put-at.auto.buf ∙ c.loop-j.invariant.0, t.room, t.have, c.loop-j.invariant.3, word_done t.words_left c.put-at.ensures)

pub put-next-requires : goal.put-next-requires
unfolding begins_in
put-next-requires c =
    let r = word_room (8 * length c.loop-j.buf) (other (goal.at.put-next-requires c).In-Other).words_left (rw c.loop-j.invariant.0 c.loop-j.invariant.3) in
    (omega arith, r, omega arith)

pub put-at-requires-in-Other : goal.put-at-requires-in-Other
unfolding begins_in
put-at-requires-in-Other c =
    let e = c.put-next.auto.buf ∙ c.loop-j.invariant.0 in
    let r = word_room (8 * length c.put-next.new.buf) (switched (goal.at.put-at-requires-in-Other c).After-put-next) (rw e c.loop-j.invariant.3) in
    (omega arith, r, omega arith)

pub overflow_add-j-in-Other : goal.overflow_add-j-in-Other
overflow_add-j-in-Other c = omega arith

pub loop-j-smaller : goal.loop-j-smaller
loop-j-smaller c = let t = other (goal.at.loop-j-smaller c).In-Other in omega arith

pub loop-j-preserved : goal.loop-j-preserved
unfolding begins_in
loop-j-preserved c =
    let t = other (goal.at.loop-j-preserved c).In-Other in
    (c.put-at-in-Other.auto.buf ∙ c.put-next.auto.buf ∙ c.loop-j.invariant.0, t.room, t.have, c.loop-j.invariant.3, word_done (switched (goal.at.loop-j-preserved c).After-put-next) c.put-at-in-Other.ensures)

pub shape_of-buf-in-Lacking : goal.shape_of-buf-in-Lacking
shape_of-buf-in-Lacking c = c.loop-j.invariant.0

pub returns-in-Lacking : goal.returns-in-Lacking
returns-in-Lacking c = never_lacking c.args.run.now c.args.mode c.loop-j.first c.loop-j.j c.character_at-g.ensures c.loop-j.invariant.2 c.in-Lacking.is

pub put-requires : goal.put-requires
put-requires c =
    let d = words_left_as (end_words c.args.run.now c.args.mode c.loop-j.first c.loop-j.j (omega arith)) c.loop-j.invariant.4 in
    (omega arith, omega arith, omega arith)

pub shape_of-buf : goal.shape_of-buf
shape_of-buf c = c.put.auto.buf ∙ c.loop-j.invariant.0

pub returns : goal.returns
unfolding begins_in
returns c =
    let d = words_left_as (end_words c.args.run.now c.args.mode c.loop-j.first c.loop-j.j (omega arith)) c.loop-j.invariant.4 in
    rw c.width-w.ensures.0 at (all_done (word_done d (rw c.end_word.ensures at c.put.ensures)))
