-- `syndromes::low_syndromes` meets its contract: four bytes after the other, and the rest. Assumes nothing.
use Rattle.general.proofs.Names.{◌∙◌, ◌+◌, ◌*◌, arith}
use Rattle.reed_solomon.proofs.Values.{running_start, running_next, running_rest, cut_four}
use Rattle.reed_solomon.proofs.syndromes.low_syndromes.Goals as goal

pub loop-i-init : goal.loop-i-init
loop-i-init c = (running_start _ _ _ _ _ _, omega arith)

pub advance_four-requires : goal.advance_four-requires
advance_four-requires c = record { field = c.requires.field; parity_bound = (omega arith, omega (arith, c.loop-i.invariant.0.size)) }

pub loop-i-preserved : goal.loop-i-preserved
loop-i-preserved c = (
  running_next _ _ _ _ _ _ _ _ _ _ _ c.loop-i.invariant.0 c.advance_four.ensures
      (cut_four _ (4 * c.loop-i.i) (4 * (c.loop-i.i + 1)) (omega arith) (omega arith)),
  omega arith,
)

pub advance_rest-requires : goal.advance_rest-requires
advance_rest-requires c = record { field = c.requires.field; parity_bound = (omega arith, omega (arith, c.loop-i.invariant.0.size), omega arith) }

pub shape_of-s : goal.shape_of-s
shape_of-s c = c.advance_rest.ensures.size ∙ c.loop-i.invariant.0.size

pub returns : goal.returns
returns c = running_rest _ _ _ _ _ _ _ _ _ c.loop-i.invariant.0 c.advance_rest.ensures
