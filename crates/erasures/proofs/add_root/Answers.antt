-- `add_root` meets its contract: from the top down. Assumes nothing.
use Rattle.general.proofs.Names.{arith}
use Rattle.general.proofs.Each.{above_start}
use Rattle.erasures.proofs.Rooting.{adding_next, times_end}
use Rattle.erasures.proofs.add_root.Goals as goal

pub loop-i-init : goal.loop-i-init
loop-i-init c = (above_start _ _ _, omega arith, omega arith)

pub loop-i-preserved : goal.loop-i-preserved
loop-i-preserved c = (adding_next _ _ _ _ _ _ _ c.loop-i.invariant.0 (omega arith) c.loop-i.invariant.2 (omega arith) c.raised.ensures, omega arith, omega arith)

pub shape_of-f : goal.shape_of-f
shape_of-f c = c.loop-i.invariant.0.size

pub returns : goal.returns
returns c = times_end _ _ _ _ _ _ c.loop-i.invariant.0 (omega arith) (omega arith) c.requires.f_len.3
