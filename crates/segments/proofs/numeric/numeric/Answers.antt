-- `numeric` meets its contract. Assumes nothing.
use Rattle.general.proofs.Names.{◌∙◌, refl, arith, ◌-◌}
use Rattle.bits.proofs.Words.{WordAt}
use Rattle.segments.specs.Segments.{digits, groups_of, numeric_of}
use Rattle.segments.specs.Positions.{numeric_at}
use Rattle.segments.proofs.Turns.{Remains, remains_start, remains_cut, remains_word, remains_lacks, remains_end, remains_on, remains_none}
use Rattle.segments.proofs.Turns.{length_digits, numeric_lacks, numeric_first, groups_more, groups_lack, groups_large, groups_end}
use Rattle.segments.proofs.numeric.numeric.Goals as goal
use Rattle.segments.proofs.numeric.numeric.Goals.{In-Value, In-Value-got, Start}

-- all of the mode is to come
begins : (c : Start) → Remains 10 (numeric_at c.args.s.now c.args.from c.args.to c.args.out.now) c.args.s.now c.args.from c.args.to c.args.from c.args.to c.args.out.now numeric_of
begins c = remains_start c.requires.1 c.requires.2

word1 : (c : In-Value) → WordAt 10 c.args.from c.in-Value.first c.args.s.now
word1 c = remains_word (begins c.before.before.before.before.before) c.read_bits-start.ensures (omega arith) c.in-Value.is

word2 : (c : In-Value-got) → WordAt 10 c.loop-w.at c.in-Value-got.w
    c.args.s.now
word2 c = remains_word c.loop-w.invariant.2 c.read_bits-got.ensures (omega arith) c.in-Value-got.is

pub returns-in_default : goal.returns-in_default
unfolding numeric_of
returns-in_default c = record { left = rw (remains_cut (begins (goal.at.returns-in_default c).Start) c.read_bits-start.ensures c.in_default.is refl) refl; inside = tt }

pub returns-then-first-ge1000 : goal.returns-then-first-ge1000
returns-then-first-ge1000 c = record { left = rw (remains_lacks (begins (goal.at.returns-then-first-ge1000 c).Start) (word1 (goal.at.returns-then-first-ge1000 c).In-Value) (numeric_lacks c.if-first-ge1000.true)) refl; inside = tt }

pub overflow_add-at : goal.overflow_add-at
overflow_add-at c = omega arith

pub loop-w-init : goal.loop-w-init
loop-w-init c =
    let w = c.in-Value.first in
    (refl, c.if-first-ge1000.false, remains_none (begins (goal.at.loop-w-init c).Start) (word1 (goal.at.loop-w-init c).In-Value) (groups_of w) (numeric_first c.if-first-ge1000.false))

pub shape_of-out-in_default-got : goal.shape_of-out-in_default-got
shape_of-out-in_default-got c = omega arith

pub returns-in_default-got : goal.returns-in_default-got
unfolding groups_of
returns-in_default-got c = record { left = rw (remains_cut c.loop-w.invariant.2 c.read_bits-got.ensures c.in_default-got.is refl) refl; inside = tt }

pub overflow_add-at-in-loop-w : goal.overflow_add-at-in-loop-w
overflow_add-at-in-loop-w c = omega arith

pub shape_of-out-then-w-le1020 : goal.shape_of-out-then-w-le1020
shape_of-out-then-w-le1020 c = omega arith

pub returns-then-w-le1020 : goal.returns-then-w-le1020
returns-then-w-le1020 c = record { left = rw (remains_lacks c.loop-w.invariant.2 (word2 (goal.at.returns-then-w-le1020 c).In-Value-got) (groups_lack c.loop-w.p c.if-w-ge1000.true c.if-w-le1020.true)) refl; inside = tt }

pub overflow_sub-k : goal.overflow_sub-k
overflow_sub-k c = omega arith

pub power_of_ten-requires : goal.power_of_ten-requires
power_of_ten-requires c = let r = (word2 (goal.at.power_of_ten-requires c).In-Value-got).small in omega arith

pub shape_of-out-then-power_of_ten-p : goal.shape_of-out-then-power_of_ten-p
shape_of-out-then-power_of_ten-p c = omega arith

pub returns-then-power_of_ten-p : goal.returns-then-power_of_ten-p
returns-then-power_of_ten-p c = record { left = rw (remains_lacks c.loop-w.invariant.2 (word2 (goal.at.returns-then-power_of_ten-p c).In-Value-got) (groups_large c.loop-w.p c.if-w-ge1000.true c.if-w-le1020.false (omega arith))) refl; inside = tt }

pub push_digits-requires : goal.push_digits-requires
push_digits-requires c = let r = (word2 (goal.at.push_digits-requires c).In-Value-got).small in (omega arith, omega arith)

pub overflow_add-result : goal.overflow_add-result
overflow_add-result c = let r = (word2 (goal.at.overflow_add-result c).In-Value-got).small in omega arith

pub shape_of-out-then-w-ge1000 : goal.shape_of-out-then-w-ge1000
shape_of-out-then-w-ge1000 c = c.push_digits.auto.out ∙ c.loop-w.invariant.0

pub returns-then-w-ge1000 : goal.returns-then-w-ge1000
returns-then-w-ge1000 c = let w = c.in-Value-got.w in
    let r = word2 (goal.at.returns-then-w-ge1000 c).In-Value-got in
    let e = remains_end c.loop-w.invariant.2 r (digits (w - 1020) c.loop-w.p) (groups_end c.loop-w.p c.if-w-ge1000.true c.if-w-le1020.false (omega arith)) in
    record { left = rw (e, length_digits) (refl, c.push_digits.ensures); inside = (omega arith, omega arith, omega arith, omega arith) }

pub push_digits-requires-in-loop-w : goal.push_digits-requires-in-loop-w
push_digits-requires-in-loop-w c = (omega arith, omega arith)

pub overflow_add-n : goal.overflow_add-n
overflow_add-n c = omega arith

pub loop-w-smaller : goal.loop-w-smaller
loop-w-smaller c = let m = (word2 (goal.at.loop-w-smaller c).In-Value-got).room in omega arith

pub loop-w-preserved : goal.loop-w-preserved
unfolding digits
loop-w-preserved c =
    let w = c.in-Value-got.w in
    (c.push_digits-in-loop-w.auto.out ∙ c.loop-w.invariant.0, c.if-w-ge1000.false, remains_on c.loop-w.invariant.2 (word2 (goal.at.loop-w-preserved c).In-Value-got) (digits 3 c.loop-w.p) (groups_of w) (groups_more c.loop-w.p c.if-w-ge1000.false) (omega arith) c.push_digits-in-loop-w.ensures)
