-- `division::put_behind` meets its contract. Assumes nothing.
use Rattle.general.proofs.Names.{sym, arith}
use Rattle.general.proofs.Each.{each_same, each_next, each_end}
use Rattle.parity.proofs.Left.{behind_low, behind_high}
use Rattle.parity.proofs.division.put_behind.Goals as goal

pub loop-i-init : goal.loop-i-init
loop-i-init c = (each_same _ _ _ (λ i h. sym (behind_low _ _ i _ h)), omega arith, omega arith)

pub bounds-b-i : goal.bounds-b-i
bounds-b-i c = omega (arith, c.loop-i.invariant.1)

pub bounds-block-i : goal.bounds-block-i
bounds-block-i c = omega (arith, c.loop-i.invariant.0.size)

pub loop-i-preserved : goal.loop-i-preserved
loop-i-preserved c = (each_next _ _ _ _ _ c.loop-i.invariant.0 (omega arith) (sym (behind_high _ _ _ _ c.loop-i.invariant.1)), omega arith, omega arith)

pub shape_of-block : goal.shape_of-block
shape_of-block c = c.loop-i.invariant.0.size

pub returns : goal.returns
returns c = each_end _ _ _ _ _ c.loop-i.invariant.0 (omega arith) (omega arith)
