-- `read_span` meets its contract. Assumes nothing.
use Rattle.small_marks.proofs.Narrow.{lowest_is, spans_none, spans_on, spans_push}
use Rattle.general.proofs.Names.{◌≡◌, refl, sym, subst, ◌∙◌, ℕ, ◌-◌, ◌^◌, ◌<◌, mod-lt, arith}
use lib.Pow.{pow_pos}
use Rattle.small_marks.proofs.read_span.Goals as goal

pub loop-r-init : goal.loop-r-init
loop-r-init c = (c.requires.1, omega arith, c.requires.2, spans_none, refl)

pub overflow_add-r : goal.overflow_add-r
overflow_add-r c = omega arith

pub unmasked-requires : goal.unmasked-requires
unmasked-requires c = (c.requires.0, omega arith, c.requires.5)

pub push-r-requires : goal.push-r-requires
push-r-requires c = (c.loop-r.invariant.0, omega arith, c.unmasked.ensures.1, omega arith)

pub loop-r-smaller : goal.loop-r-smaller
loop-r-smaller c = omega arith

pub loop-r-preserved : goal.loop-r-preserved
loop-r-preserved c =
    let taken = c.loop-r-test.true in
    let lo = c.loop-r.invariant.1 in
    let on = c.push-r.ensures.1 in (
      c.push-r.ensures.0,
      omega (arith, lo, on),
      omega (arith, on, taken),
      spans_on lo (omega (arith, on)) c.loop-r.invariant.3
          (spans_push c.requires.0 8 _ (omega (arith, taken)) c.unmasked.ensures.0 on c.push-r.ensures.2),
      c.push-r.auto.out
          ∙ c.loop-r.invariant.4,
    )

pub overflow_sub-w : goal.overflow_sub-w
overflow_sub-w c = c.loop-r.invariant.2

pub overflow_sub-to : goal.overflow_sub-to
overflow_sub-to c = c.requires.3

pub unmasked-requires-2 : goal.unmasked-requires-2
unmasked-requires-2 c = (c.requires.0, omega arith, c.requires.5)

pub lowest-requires : goal.lowest-requires
lowest-requires c = omega (arith, c.loop-r-test.false)

pub push-requires : goal.push-requires
push-requires c =
    let w = c.args.to - c.loop-r.r.column in
    (c.loop-r.invariant.0, omega arith, subst (λ (x : ℕ). x < 2 ^ w) (sym c.lowest.ensures) (mod-lt _ (pow_pos w)), omega arith)

pub shape_of-out : goal.shape_of-out
shape_of-out c = c.push.auto.out ∙ c.loop-r.invariant.4

pub returns : goal.returns
returns c =
    let to = c.args.to in
    let most = c.loop-r.invariant.2 in
    let w = c.args.to - c.loop-r.r.column in
    let e : c.push.result.column ≡ c.args.to = omega (arith, most) in
    let left = c.loop-r-test.false in
    let x = lowest_is c.requires.0 (to - 8) w c.loop-r.r.column (omega (arith, left)) (omega (arith, most))
    c.unmasked-2.ensures.0 c.lowest.ensures in (
      c.push.ensures.0,
      e,
      spans_on c.loop-r.invariant.1 (omega (arith, e, most)) c.loop-r.invariant.3
          (spans_push c.requires.0 w _ (omega (arith, most)) x c.push.ensures.1 c.push.ensures.2),
    )
