-- `copy` meets its contract. Assumes nothing.
use Rattle.general.proofs.Names.{◌≡◌, refl, ◌∙◌, arith, length-set}
use Rattle.parse.proofs.Copies.{copy_more}
use Rattle.parse.proofs.copy.Goals as goal

pub loop-i-init : goal.loop-i-init
loop-i-init c = (refl, omega arith, refl)

pub bounds-from-i : goal.bounds-from-i
bounds-from-i c = omega arith

pub bounds-to-i : goal.bounds-to-i
bounds-to-i c = omega arith

pub overflow_add-i : goal.overflow_add-i
overflow_add-i c = omega arith

pub loop-i-smaller : goal.loop-i-smaller
loop-i-smaller c = omega arith

pub loop-i-preserved : goal.loop-i-preserved
loop-i-preserved c = (simp length-set c.loop-i.invariant.0, omega arith, rw c.loop-i.invariant.2 (copy_more c.args.to.now c.args.from.now c.loop-i.i (omega arith) (omega arith)))

pub shape_of-to : goal.shape_of-to
shape_of-to c = c.loop-i.invariant.0

pub returns : goal.returns
returns c =
    let e : c.loop-i.i ≡ c.args.n = omega arith in
    c.loop-i.invariant.2 ∙ rw e
