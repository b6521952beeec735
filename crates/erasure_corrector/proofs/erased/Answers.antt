-- `erased` meets its contract: the places that are not zero. Assumes nothing.
use Rattle.general.proofs.Names.{◌≡◌, refl, ◌+◌, arith, length}
use Rattle.reed_solomon.specs.Sum.{seq}
use Rattle.reed_solomon.specs.Inner.{zeros_of}
use Rattle.reed_solomon.proofs.Erased.{erasures_zeros}
use Rattle.erasure_corrector.proofs.Repairs.{erased_next}
use Rattle.erasure_corrector.proofs.erased.Goals as goal
use Rattle.erasure_corrector.proofs.erased.Goals.{After-differ-count}

-- the place of a turn is counted
next : (c : After-differ-count) → let flags = c.args.flags.now in
    c.loop-k.count + c.differ-count.result + zeros_of (c.loop-k.k + 1) (seq flags) ≡ c.loop-k.k + 1
next c = erased_next _ _ _ _ c.loop-k.invariant.0 c.differ-count.ensures

pub loop-k-init : goal.loop-k-init
unfolding zeros_of
loop-k-init c = (refl, omega arith)

pub overflow_add-count : goal.overflow_add-count
overflow_add-count c = omega (arith, next (goal.at.overflow_add-count c).After-differ-count)

pub loop-k-preserved : goal.loop-k-preserved
loop-k-preserved c = (next (goal.at.loop-k-preserved c).After-differ-count, omega arith)

pub returns : goal.returns
returns c = let flags = c.args.flags.now in
    let e : c.loop-k.k ≡ length flags = omega arith in
    omega (arith, erasures_zeros flags, rw e at c.loop-k.invariant.0)
