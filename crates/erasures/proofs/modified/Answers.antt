-- `modified` meets its contract: one value after the other. Assumes nothing.
use Rattle.general.proofs.Names.{◌∙◌, sym, arith}
use Rattle.erasures.proofs.Rooting.{modified_start, modified_next, modified_end}
use Rattle.erasures.proofs.modified.Goals as goal

pub loop-j-init : goal.loop-j-init
loop-j-init c = (modified_start _ _ _ _ _ c.requires.t_len.0 c.requires.t_len.1, omega arith)

pub bounds-t-j : goal.bounds-t-j
bounds-t-j c = omega (arith, c.loop-j.invariant.0.size)

pub loop-j-preserved : goal.loop-j-preserved
loop-j-preserved c = (modified_next _ _ _ _ _ _ _ c.loop-j.invariant.0 c.discrepancy.ensures (omega arith) (omega arith), omega arith)

pub shape_of-t : goal.shape_of-t
shape_of-t c = c.loop-j.invariant.0.size ∙ sym c.requires.t_len.0

pub returns : goal.returns
returns c = modified_end _ _ _ _ _ _ _ c.loop-j.invariant.0 (omega arith) (omega arith)
