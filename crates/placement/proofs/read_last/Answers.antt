-- `read_last` meets its contract. Assumes nothing.
use Rattle.placement.proofs.Walk.{lowest_size, reads_none, reads_on}
use Rattle.placement.proofs.Runs.{last_moves}
use Rattle.general.proofs.Names.{refl, ◌∙◌, arith}
use Rattle.placement.proofs.read_last.Goals as goal

pub overflow_sub-end : goal.overflow_sub-end
overflow_sub-end c = c.requires.3

pub eight-k-requires : goal.eight-k-requires
eight-k-requires c = omega arith

pub overflow_sub-end-2 : goal.overflow_sub-end-2
overflow_sub-end-2 c = c.requires.3

pub modules-x-requires : goal.modules-x-requires
modules-x-requires c = (c.requires.0.masked, c.requires.0.room, omega (arith, c.requires.0.size))

pub loop-r-init : goal.loop-r-init
loop-r-init c = (c.requires.1, omega arith, c.requires.2, reads_none, refl)

pub overflow_sub-left : goal.overflow_sub-left
overflow_sub-left c = c.loop-r.invariant.2

pub overflow_mul-s : goal.overflow_mul-s
overflow_mul-s c = omega arith

pub overflow_sub-s : goal.overflow_sub-s
overflow_sub-s c = omega arith

pub overflow_shr-k : goal.overflow_shr-k
overflow_shr-k c = omega arith

pub overflow_shr-x : goal.overflow_shr-x
overflow_shr-x c = omega arith

pub advance-r-requires : goal.advance-r-requires
advance-r-requires c =
    let a = c.requires.0 in
    (c.loop-r.invariant.0, omega arith, omega arith, omega (arith, a.masked.side, lowest_size a))

pub loop-r-smaller : goal.loop-r-smaller
loop-r-smaller c =
    let m = last_moves c.requires.0 (λ i. omega (arith, c.type_inv.kinds i)) c.requires.3 c.loop-r-test.true (omega arith)
    c.eight-k.ensures c.modules-x.ensures c.advance-r.ensures.1 in omega arith

pub loop-r-preserved : goal.loop-r-preserved
loop-r-preserved c =
    let m = last_moves c.requires.0 (λ i. omega (arith, c.type_inv.kinds i)) c.requires.3 c.loop-r-test.true (omega (arith, c.loop-r.invariant.1, c.requires.4))
    c.eight-k.ensures c.modules-x.ensures c.advance-r.ensures.1 in
    (c.advance-r.ensures.0, omega arith, m.1, reads_on c.loop-r.invariant.3 m.2, c.advance-r.auto.out ∙ c.loop-r.invariant.4)

pub shape_of-out : goal.shape_of-out
shape_of-out c = c.loop-r.invariant.4

pub returns : goal.returns
returns c = (c.loop-r.invariant.0, omega arith, c.loop-r.invariant.3)
