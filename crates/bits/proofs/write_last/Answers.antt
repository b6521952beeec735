-- `write_last` meets its contract. Assumes nothing.
use Rattle.general.proofs.Names.{◌∙◌, refl, sym, ap, sub-zero, add-zero, arith, ℕ, ◌-◌, ◌+◌, List, sets}
use Rattle.bits.specs.Bits.{bits_of, low_bits}
use Rattle.bits.proofs.Writing.{write_more, write_all}
use Rattle.bits.proofs.write_last.Goals as goal

pub loop-i-init : goal.loop-i-init
loop-i-init c = (refl, omega arith, simp (sub-zero, add-zero))

pub overflow_add-at : goal.overflow_add-at
overflow_add-at c = omega arith

pub overflow_sub-n : goal.overflow_sub-n
overflow_sub-n c = omega arith

pub overflow_sub-n-in-loop-i : goal.overflow_sub-n-in-loop-i
overflow_sub-n-in-loop-i c = omega arith

pub overflow_shr-v : goal.overflow_shr-v
overflow_shr-v c = omega arith

pub write_bit-requires : goal.write_bit-requires
write_bit-requires c = omega arith

pub overflow_add-i : goal.overflow_add-i
overflow_add-i c = omega arith

pub loop-i-smaller : goal.loop-i-smaller
loop-i-smaller c = omega arith

pub loop-i-preserved : goal.loop-i-preserved
loop-i-preserved c = (
  c.write_bit.auto.buf ∙ c.loop-i.invariant.0,
  omega arith,
  c.loop-i.invariant.2 ∙ write_more (bits_of c.loop-i.buf) c.args.at c.args.n c.loop-i.i c.args.v (omega arith)
      ∙ ap (λ (B : List ℕ). sets B (c.args.at + (c.loop-i.i + 1)) (low_bits (c.args.n - (c.loop-i.i + 1)) c.args.v)) (sym c.write_bit.ensures),
)

pub shape_of-buf : goal.shape_of-buf
shape_of-buf c = omega arith

pub returns : goal.returns
returns c = sym (c.loop-i.invariant.2 ∙ write_all _ _ _ _ _ (omega arith))
