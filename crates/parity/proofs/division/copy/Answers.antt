-- `division::copy` meets its contract: below k nothing is copied. Assumes nothing.
use Rattle.general.proofs.Names.{sym, arith}
use Rattle.general.proofs.Each.{each_next, each_end}
use Rattle.parity.proofs.Remainder.{copied_high, copying_start}
use Rattle.parity.proofs.division.copy.Goals as goal

pub loop-i-init : goal.loop-i-init
loop-i-init c = (copying_start _ _ _, omega arith, omega arith)

pub bounds-dst-i : goal.bounds-dst-i
bounds-dst-i c = omega (arith, c.loop-i.invariant.0.size)

pub loop-i-preserved : goal.loop-i-preserved
loop-i-preserved c = (each_next _ _ _ _ _ c.loop-i.invariant.0 (omega arith) (sym (copied_high _ _ _ _ c.loop-i.invariant.1)), omega arith, omega arith)

pub shape_of-dst : goal.shape_of-dst
shape_of-dst c = c.loop-i.invariant.0.size

pub returns : goal.returns
returns c = each_end _ _ _ _ _ c.loop-i.invariant.0 (omega arith) (omega arith)
