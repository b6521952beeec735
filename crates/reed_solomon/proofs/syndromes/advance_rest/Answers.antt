-- `syndromes::advance_rest` meets its contract: one byte after the other. Assumes nothing.
use Rattle.general.proofs.Names.{arith}
use Rattle.reed_solomon.proofs.Values.{running_start, running_next, running_end, cut_one}
use Rattle.reed_solomon.proofs.syndromes.advance_rest.Goals as goal

pub loop-i-init : goal.loop-i-init
loop-i-init c = (running_start _ _ _ _ _ _, omega arith)

pub advance-requires : goal.advance-requires
advance-requires c = record { field = c.requires.field; parity_bound = (omega arith, omega arith) }

pub loop-i-preserved : goal.loop-i-preserved
loop-i-preserved c = (running_next _ _ _ _ _ _ _ _ _ _ _ c.loop-i.invariant.0 c.advance.ensures (cut_one _ c.loop-i.i (omega arith)), omega arith)

pub shape_of-s : goal.shape_of-s
shape_of-s c = c.loop-i.invariant.0.size

pub returns : goal.returns
returns c = running_end _ _ _ _ _ _ _ _ c.loop-i.invariant.0 (omega arith)
