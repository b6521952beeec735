-- `lower` meets its contract. Assumes nothing.
use Rattle.general.proofs.Names.{ap, ◌∙◌, ◌+◌, ◌≤◌, arith, mul-le-mul}
use Rattle.field.specs.Field.{mul}
use Rattle.field.proofs.Entries.{the_field}
use Rattle.general.proofs.Each.{each_start, each_next, each_end}
use Rattle.remainder.proofs.Lowered.{reduced_power}
use Rattle.remainder.proofs.lower.Goals as goal

pub loop-j-init : goal.loop-j-init
loop-j-init c = (each_start _ _, omega arith)

pub bounds-s-j : goal.bounds-s-j
bounds-s-j c = omega (arith, c.loop-j.invariant.0.size)

pub overflow_mul-n : goal.overflow_mul-n
overflow_mul-n c =
    let j = c.loop-j.j in
    let few : c.args.n ≤ 255 = c.requires.first_bound.2 in
    let low : c.args.first + j ≤ 511 = omega arith in
    record { fits = omega (arith, mul-le-mul few low) }

pub bounds-s-j-in-loop-j : goal.bounds-s-j-in-loop-j
bounds-s-j-in-loop-j c = omega (arith, c.loop-j.invariant.0.size)

pub loop-j-preserved : goal.loop-j-preserved
loop-j-preserved c = (
  each_next _ _ _ _ _ c.loop-j.invariant.0 (omega arith)
      (c.raised.ensures ∙ ap (mul _ _)
      (reduced_power _ (the_field _ c.requires.field) _)),
  omega arith,
)

pub shape_of-s : goal.shape_of-s
shape_of-s c = c.loop-j.invariant.0.size

pub returns : goal.returns
returns c = each_end _ _ _ _ _ c.loop-j.invariant.0 c.loop-j.invariant.1 (omega arith)
