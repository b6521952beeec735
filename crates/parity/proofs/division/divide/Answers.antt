-- `division::divide` meets its contract: one coefficient more becomes zero in each turn. Assumes nothing.
use Rattle.general.proofs.Names.{refl, ◌∙◌, arith}
use Rattle.field.proofs.Entries.{the_field}
use Rattle.parity.proofs.Remainder.{divided_start, reduced, divided_end}
use Rattle.parity.proofs.division.divide.Goals as goal

pub loop-i-init : goal.loop-i-init
loop-i-init c = (
  refl,
  divided_start _ (the_field _ c.requires.field) _ _ c.requires.monic _ _ (λ i. omega (arith, c.type_inv.w i)),
  omega arith,
)

pub loop-i-preserved : goal.loop-i-preserved
loop-i-preserved c = (
  c.add_moved.ensures.size ∙ c.loop-i.invariant.0,
  reduced _ (the_field _ c.requires.field) _ _ _ c.args.g.now c.args.w.now _ _ c.requires.monic
      c.loop-i.invariant.1 (omega arith) c.add_moved.ensures,
  omega arith,
)

pub shape_of-w : goal.shape_of-w
shape_of-w c = c.loop-i.invariant.0

pub returns : goal.returns
returns c = (c.loop-i.invariant.0, divided_end _ _ _ _ _ _ _ _ c.loop-i.invariant.1 c.loop-i.invariant.2 (omega arith))
