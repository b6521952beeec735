-- `advance` meets its contract. Assumes nothing.
use Rattle.placement.proofs.Runs.{reads_next_push, reads_next_skip}
use Rattle.placement.specs.Walk.{ZeroBytesFirst}
use lib.Pow.{shr_lt}
use Rattle.general.proofs.Names.{◌≡◌, refl, subst, ℕ, ◌+◌, ◌-◌, ◌^◌, ◌<◌, arith}
use Rattle.placement.proofs.advance.Goals as goal

pub overflow_add-result : goal.overflow_add-result
overflow_add-result c = omega arith

pub returns-then-w-eq0 : goal.returns-then-w-eq0
returns-then-w-eq0 c =
    let none : c.zero_bytes.result ≡ 0 = omega (arith, c.least-w.ensures.2 (omega arith)) in (
      record { few = c.requires.0.few; small = c.requires.0.small },
      reads_next_skip c.requires.1 c.requires.2
          (subst (ZeroBytesFirst c.args.k) none c.zero_bytes.ensures) c.no_data.ensures refl refl refl refl,
    )

pub overflow_sub-w : goal.overflow_sub-w
overflow_sub-w c = omega arith

pub overflow_shr-gather : goal.overflow_shr-gather
overflow_shr-gather c = omega arith

pub push-requires : goal.push-requires
push-requires c =
    let w = c.least-w.result in
    let e : 8 ≡ c.least-w.result + (8 - c.least-w.result) = omega arith in
    (c.requires.0, omega arith, shr_lt w _ (subst (λ (n : ℕ). c.gather.result < 2 ^ n) e c.gather.ensures.small), omega arith)

pub returns : goal.returns
returns c = (
  c.push.ensures.0,
  reads_next_push c.requires.1 c.requires.2 _ c.zero_bytes.ensures
      c.least-w.ensures.0 (omega arith) (omega arith) c.gather.ensures c.push.ensures.1 c.push.ensures.2,
)
