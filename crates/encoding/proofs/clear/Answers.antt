-- `clear` meets its contract. Assumes nothing.
use Rattle.general.proofs.Names.{refl, ◌∙◌, arith, length-set}
use Rattle.encoding.proofs.Zeros.{clear_start, clear_more, clear_end}
use Rattle.encoding.proofs.clear.Goals as goal

pub loop-i-init : goal.loop-i-init
loop-i-init c = (refl, omega arith, omega arith, clear_start _ _)

pub bounds-buf-i : goal.bounds-buf-i
bounds-buf-i c = omega arith

pub overflow_add-i : goal.overflow_add-i
overflow_add-i c = omega arith

pub loop-i-smaller : goal.loop-i-smaller
loop-i-smaller c = omega arith

pub loop-i-preserved : goal.loop-i-preserved
loop-i-preserved c = (simp length-set c.loop-i.invariant.0, omega arith, omega arith, rw c.loop-i.invariant.3 (clear_more _ _ _ (omega arith) (omega arith)))

pub shape_of-buf : goal.shape_of-buf
shape_of-buf c = c.loop-i.invariant.0

pub returns : goal.returns
returns c = c.loop-i.invariant.3 ∙ clear_end _ _ _ (omega arith)
