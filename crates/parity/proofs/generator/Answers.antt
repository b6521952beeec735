-- `generator` meets its contract: one root more in each turn. Assumes nothing.
use Rattle.general.proofs.Names.{refl, sym, ◌∙◌, replicate, arith}
use Rattle.field.proofs.Entries.{the_field}
use Rattle.reed_solomon.proofs.Massey.{zeros, one_first}
use Rattle.parity.proofs.Remainder.{generator_start, multiplied, generator_end}
use Rattle.parity.proofs.generator.Goals as goal

pub loop-n-init : goal.loop-n-init
loop-n-init c = (refl, generator_start _ _ _ refl (one_first (replicate 256 0) refl (zeros 256)), omega arith)

pub slice_bounds-add_moved-end : goal.slice_bounds-add_moved-end
slice_bounds-add_moved-end c = sym c.loop-n.invariant.0

pub slice_bounds-add_moved-end-in-loop-n : goal.slice_bounds-add_moved-end-in-loop-n
slice_bounds-add_moved-end-in-loop-n c = sym c.loop-n.invariant.0

pub loop-n-preserved : goal.loop-n-preserved
loop-n-preserved c = (
  c.add_moved.ensures.size ∙ c.loop-n.invariant.0,
  multiplied _ (the_field _ c.requires.field) _ _ _ _ _ c.loop-n.invariant.1 c.power-root.ensures c.add_moved.ensures,
  omega arith,
)

pub returns : goal.returns
returns c = (c.loop-n.invariant.0, generator_end _ _ _ _ _ c.loop-n.invariant.1 c.loop-n.invariant.2 (omega arith))
