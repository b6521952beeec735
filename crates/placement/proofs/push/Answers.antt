-- `push` meets its contract. Assumes nothing.
use Rattle.placement.proofs.Walk.{shifted, sum_small, few_pushed, full_pushed}
use Rattle.placement.specs.Walk.{Stored}
use Rattle.general.proofs.Names.{◌≡◌, refl, ap, subst, ℕ, ◌+◌, ◌-◌, ◌/◌, ◌%◌, ◌^◌, arith}
use Rattle.placement.proofs.push.Goals as goal

pub overflow_add-v : goal.overflow_add-v
overflow_add-v c =
    omega (
      arith,
      sum_small c.requires.0 _ _ c.requires.1 c.requires.2,
      shifted c.requires.0 _
          _ c.requires.1 c.requires.2,
    )

pub returns-then-bits-lt8 : goal.returns-then-bits-lt8
returns-then-bits-lt8 c =
    let v = ap (λ (y : ℕ). y + c.args.x) (shifted c.requires.0 _ _ c.requires.1 c.requires.2) in
    let few = few_pushed c.requires.0 _ _ c.requires.1 c.requires.2 v refl refl c.if-bits-lt8.true in (few.0, refl, few.1)

pub returns : goal.returns
returns c =
    let left = c.args.r.bits + c.args.w - 8 in
    let l : c.args.r.bits + c.args.w ≡ 8 + (c.args.r.bits + c.args.w - 8) = omega arith in
    let e = shifted c.requires.0 _ _ c.requires.1 c.requires.2 in
    let v = ap (λ (y : ℕ). (y + c.args.x) % 256) e in
    let t = subst (λ (y : ℕ). Stored c.args.r.n ((y + c.args.x) / 2 ^ left % 256) c.args.out.now c.store.new.out
    c.store.result) e c.store.ensures in
    let full = full_pushed c.requires.0 c.args.w c.args.x c.requires.1 c.requires.2 left l v refl t in (full.0, refl, full.1)
