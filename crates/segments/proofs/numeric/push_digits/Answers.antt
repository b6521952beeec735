-- `push_digits` meets its contract. Assumes nothing.
use Rattle.general.proofs.Names.{◌≡◌, ◌∙◌, refl, sym, ap, List, arith, sub-zero, add-zero, ℕ, ◌-◌, ◌+◌, ◌^◌, ◌/◌, ◌%◌, set, sets}
use Rattle.segments.specs.Segments.{digits}
use Rattle.segments.proofs.Turns.{digits_more, digits_all}
use Rattle.segments.proofs.numeric.push_digits.Goals as goal

pub loop-i-init : goal.loop-i-init
loop-i-init c = (refl, omega arith, simp (sub-zero, add-zero))

pub overflow_sub-k : goal.overflow_sub-k
overflow_sub-k c = omega arith

pub overflow_sub-k-in-loop-i : goal.overflow_sub-k-in-loop-i
overflow_sub-k-in-loop-i c = omega arith

pub power_of_ten-requires : goal.power_of_ten-requires
power_of_ten-requires c = omega arith

pub nonzero_div-d : goal.nonzero_div-d
nonzero_div-d c = omega arith

pub overflow_add-n : goal.overflow_add-n
overflow_add-n c = omega arith

pub overflow_add-d : goal.overflow_add-d
overflow_add-d c = omega arith

pub put-requires : goal.put-requires
put-requires c = omega arith

pub overflow_add-i : goal.overflow_add-i
overflow_add-i c = omega arith

pub loop-i-smaller : goal.loop-i-smaller
loop-i-smaller c = omega arith

pub loop-i-preserved : goal.loop-i-preserved
loop-i-preserved c =
    let t = c.power_of_ten.ensures.0 in
    let e : c.put.new.out ≡ set c.loop-i.out (c.args.n + c.loop-i.i) (48 + c.args.v / 10 ^ (c.args.k - 1 - c.loop-i.i) % 10) = c.put.ensures
    ∙ ap (λ (z : ℕ). set c.loop-i.out (c.args.n + c.loop-i.i) (48 + c.args.v / z % 10)) t in (
      c.put.auto.out ∙ c.loop-i.invariant.0,
      omega arith,
      c.loop-i.invariant.2 ∙ digits_more c.loop-i.out _ _ _ _ (omega arith)
          ∙ ap (λ (z : List ℕ). sets z (c.args.n + (c.loop-i.i + 1)) (digits (c.args.k - (c.loop-i.i + 1)) c.args.v)) (sym e),
    )

pub shape_of-out : goal.shape_of-out
shape_of-out c = omega arith

pub returns : goal.returns
returns c = sym (c.loop-i.invariant.2 ∙ digits_all c.loop-i.out (c.args.n + c.loop-i.i) c.args.k _ c.args.v (omega arith))
