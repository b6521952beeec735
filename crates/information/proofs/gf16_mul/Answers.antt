-- `gf16_mul` meets its contract. Assumes nothing.
use Rattle.information.proofs.Products.{one_more}
use Rattle.information.specs.Information.{product_from, gf16_mul}
use Rattle.general.proofs.Names.{◌-◌, ◌≡◌, refl, sym, ◌∙◌, arith}
use Rattle.information.proofs.gf16_mul.Goals as goal

pub loop-i-init : goal.loop-i-init
unfolding gf16_mul
loop-i-init c = (omega arith, omega arith, omega arith, omega arith, refl)

pub overflow_add-i : goal.overflow_add-i
overflow_add-i c = omega arith

pub loop-i-smaller : goal.loop-i-smaller
loop-i-smaller c = omega arith

pub loop-i-preserved : goal.loop-i-preserved
loop-i-preserved c = (
  c.plus_if_odd-p.ensures.1,
  c.times_x-a.ensures.1,
  omega arith,
  omega arith,
  sym (one_more c.loop-i.p c.loop-i.a c.loop-i.b c.loop-i.i
      c.loop-i-test.true c.plus_if_odd-p.ensures.0 c.times_x-a.ensures.0) ∙ c.loop-i.invariant.4,
)

pub returns : goal.returns
unfolding product_from
returns c =
    let e : 4 - c.loop-i.i ≡ 0 = omega arith in let q : product_from (4 - c.loop-i.i) c.loop-i.p c.loop-i.a c.loop-i.b ≡ gf16_mul c.args.x
    c.args.y = c.loop-i.invariant.4 in (rw e at q, c.loop-i.invariant.0)
