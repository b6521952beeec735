-- `syndromes::advance_two` meets its contract: one syndrome after the other is advanced. Assumes nothing.
use Rattle.general.proofs.Names.{arith}
use Rattle.field.proofs.Entries.{the_field}
use Rattle.reed_solomon.specs.Block.{eval_from}
use Rattle.general.proofs.Each.{each_start, each_next, each_end}
use Rattle.reed_solomon.proofs.Values.{two_at_once}
use Rattle.reed_solomon.proofs.syndromes.advance_two.Goals as goal

pub loop-j-init : goal.loop-j-init
loop-j-init c = (each_start _ _, omega arith)

pub bounds-s-j : goal.bounds-s-j
bounds-s-j c = omega (arith, c.loop-j.invariant.0.size)

pub bounds-s-j-in-loop-j : goal.bounds-s-j-in-loop-j
bounds-s-j-in-loop-j c = omega arith

pub loop-j-preserved : goal.loop-j-preserved
unfolding eval_from
loop-j-preserved c = (
  each_next _ _ _ _ _ c.loop-j.invariant.0 (omega arith)
      (two_at_once _ (the_field _ c.requires.field) _ _ _ _ _ _ _ c.reduced.ensures.1 c.raised.ensures c.raised-in-loop-j.ensures),
  omega arith,
)

pub shape_of-s : goal.shape_of-s
shape_of-s c = c.loop-j.invariant.0.size

pub returns : goal.returns
returns c = each_end _ _ _ _ _ c.loop-j.invariant.0 (omega arith) (omega arith)
