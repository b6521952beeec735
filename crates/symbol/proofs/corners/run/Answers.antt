-- `run` meets its contract.
use Rattle.general.proofs.Names.{ℕ, ◌≡◌, refl, subst, arith}
use Rattle.symbol.proofs.Stored.{stored_none, stored_more}
use Rattle.symbol.specs.Inner.{Stored}
use Rattle.symbol.proofs.corners.run.Goals as goal

pub loop-i-init : goal.loop-i-init
loop-i-init c = (stored_none _ _ _, omega arith, omega arith)

pub bounds-out-i : goal.bounds-out-i
bounds-out-i c = omega arith

pub overflow_add-i : goal.overflow_add-i
overflow_add-i c = omega arith

pub loop-i-smaller : goal.loop-i-smaller
loop-i-smaller c = omega arith

pub loop-i-preserved : goal.loop-i-preserved
loop-i-preserved c = (stored_more c.loop-i.invariant.1 (omega arith) refl c.loop-i.invariant.0, omega arith, omega arith)

pub shape_of-out : goal.shape_of-out
shape_of-out c = c.loop-i.invariant.0.size

pub returns : goal.returns
returns c =
    let e : c.loop-i.i ≡ c.args.to =
    omega arith in subst (λ (n : ℕ). Stored (λ i. c.args.kind) c.args.from n c.args.out.now c.loop-i.out) e c.loop-i.invariant.0
