-- `write_sixes` meets its contract. Assumes nothing.
use Rattle.general.proofs.Names.{◌≡◌, refl, ap, ◌∙◌, ℕ, ◌*◌, ◌/◌, arith, length, drop}
use Rattle.script.specs.Writer.{numeric_words}
use Rattle.encoding.proofs.WordsLeft.{begun, two_room, two_done, words_left_as, six_digits, two_words}
use Rattle.encoding.proofs.write_sixes.Goals as goal

pub loop-j-init : goal.loop-j-init
loop-j-init c = (refl, omega arith, refl, begun 10 c.args.buf.now _ _)

pub overflow_sub-run : goal.overflow_sub-run
overflow_sub-run c = omega arith

pub group-first-requires : goal.group-first-requires
group-first-requires c = omega arith

pub overflow_add-j : goal.overflow_add-j
overflow_add-j c = omega arith

pub group-second-requires : goal.group-second-requires
group-second-requires c = omega arith

pub overflow_mul-first : goal.overflow_mul-first
overflow_mul-first c = omega arith

pub overflow_add-first : goal.overflow_add-first
overflow_add-first c = omega arith

pub put-at-requires : goal.put-at-requires
put-at-requires c =
    let r = two_room (8 * length c.args.buf.now) (words_left_as (six_digits _ c.loop-j.j (omega arith)) c.loop-j.invariant.3) (omega arith) in
    (omega arith, omega arith, omega arith)

pub overflow_add-j-in-loop-j : goal.overflow_add-j-in-loop-j
overflow_add-j-in-loop-j c = omega arith

pub loop-j-smaller : goal.loop-j-smaller
loop-j-smaller c = omega arith

pub loop-j-preserved : goal.loop-j-preserved
loop-j-preserved c =
    let d = words_left_as (six_digits c.args.run.now c.loop-j.j (omega arith)) c.loop-j.invariant.3 in
    (c.put-at.auto.buf ∙ c.loop-j.invariant.0, omega arith, omega arith, two_done d (rw (c.group-first.ensures.0, c.group-second.ensures.0) at (rw (two_words 10 10 _ _) at c.put-at.ensures)))

pub shape_of-buf : goal.shape_of-buf
shape_of-buf c = c.loop-j.invariant.0

pub returns : goal.returns
returns c =
    let e : c.loop-j.j ≡ length c.args.run.now / 6 * 6 = omega arith in
    words_left_as (ap (λ (k : ℕ). numeric_words (drop k c.args.run.now)) e) c.loop-j.invariant.3
