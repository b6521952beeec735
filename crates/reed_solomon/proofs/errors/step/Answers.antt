-- `errors::step` meets its contract: each term is carried, added at four places, and held at the place behind them. Assumes nothing.
use Rattle.general.proofs.Names.{arith}
use Rattle.field.proofs.Entries.{the_field}
use Rattle.general.proofs.Each.{each_start, each_next, each_end}
use Rattle.reed_solomon.proofs.Terms.{sums_start, sums_next, sums_end, carried_on}
use Rattle.reed_solomon.proofs.errors.step.Goals as goal

pub loop-i-init : goal.loop-i-init
loop-i-init c = (sums_start _ _ _, each_start _ _, omega arith)

pub bounds-terms-i : goal.bounds-terms-i
bounds-terms-i c = omega (arith, c.loop-i.invariant.1.size)

pub bounds-terms-i-in-loop-i : goal.bounds-terms-i-in-loop-i
bounds-terms-i-in-loop-i c = omega (arith, c.loop-i.invariant.1.size)

pub loop-i-preserved : goal.loop-i-preserved
loop-i-preserved c = (
  sums_next _ _ _ _ _ _ _ _ _ _ _ _ c.loop-i.invariant.0 (c.loop-i.invariant.1.rest c.loop-i.i (omega arith)) c.carry-next.ensures.0 c.carry-next.ensures.1 c.carry-next.ensures.2,
  each_next _ _ _ _ _ c.loop-i.invariant.1 (omega (arith, c.requires.l_bound.1)) c.carry-next.ensures.3,
  omega arith,
)

pub shape_of-terms : goal.shape_of-terms
shape_of-terms c = c.loop-i.invariant.1.size

pub returns : goal.returns
returns c =
    carried_on _ (the_field _ c.requires.field) _ _ _ _ _ _ _ (sums_end _ _ _ _ _ _ _ _ _ c.loop-i.invariant.0 (omega arith))
    (each_end _ _ _ _ _ c.loop-i.invariant.1 (omega arith) (omega arith))
