-- `errors::take_off` meets its contract. Assumes nothing.
use Rattle.general.proofs.Names.{sym, ap, ◌∙◌, ℕ, ◌*◌, ◌%◌, arith}
use Rattle.field.specs.Field.{power, mul}
use Rattle.field.specs.Table.{poly_of}
use Rattle.field.proofs.Field.{mul_power}
use Rattle.field.proofs.Entries.{the_field}
use Rattle.general.proofs.Each.{each_start, each_end}
use Rattle.reed_solomon.proofs.Magnitudes.{small_product}
use Rattle.reed_solomon.proofs.Values.{reduced_power}
use Rattle.reed_solomon.proofs.Residue.{off_none, off_next, weight_start, weight_more}
use Rattle.reed_solomon.proofs.errors.take_off.Goals as goal

pub returns-then-y-eq0 : goal.returns-then-y-eq0
returns-then-y-eq0 c = off_none _ (the_field _ c.requires.field) _ _ _ _ _ c.if-y-eq0.true

pub overflow_mul-d : goal.overflow_mul-d
overflow_mul-d c = omega (arith, small_product c.args.d c.args.first c.requires.parity_in_bounds.1 c.requires.parity_in_bounds.2)

pub loop-j-init : goal.loop-j-init
loop-j-init c =
    let P = the_field _ c.requires.field in
    let poly = poly_of c.args.field.now in
    let e = c.args.d * c.args.first % 255 in (
      each_start _ _,
      weight_start _ P _ _ _ _ (reduced_power poly P _ _ c.reduced-n.ensures.1 ∙ sym (mul_power poly P c.log.result e)
          ∙ ap (λ (a : ℕ). mul poly a (power poly e)) c.log.ensures.1),
      c.reduced-n.ensures.0,
      omega arith,
    )

pub bounds-s-j : goal.bounds-s-j
bounds-s-j c = omega (arith, c.loop-j.invariant.0.size)

pub bounds-s-j-in-loop-j : goal.bounds-s-j-in-loop-j
bounds-s-j-in-loop-j c = omega (arith, c.loop-j.invariant.0.size)

pub loop-j-preserved : goal.loop-j-preserved
loop-j-preserved c =
    let P = the_field _ c.requires.field in
    let poly = poly_of c.args.field.now in (
      off_next _ P _ _ _ _ _ _ _ c.loop-j.invariant.0 (omega arith) (c.power.ensures ∙ c.loop-j.invariant.1),
      weight_more _ P _ _ _ _ _ _ c.loop-j.invariant.1 (reduced_power poly P _ _ c.reduced-n-in-loop-j.ensures.1 ∙ sym (mul_power poly P c.loop-j.n c.args.d)),
      c.reduced-n-in-loop-j.ensures.0,
      omega arith,
    )

pub shape_of-s : goal.shape_of-s
shape_of-s c = c.loop-j.invariant.0.size

pub returns : goal.returns
returns c = each_end _ _ _ _ _ c.loop-j.invariant.0 c.loop-j.invariant.3 (omega arith)
