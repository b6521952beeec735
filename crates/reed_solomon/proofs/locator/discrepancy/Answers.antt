-- `locator::discrepancy` meets its contract: the sum, term by term. Assumes nothing.
use Rattle.general.proofs.Names.{◌≡◌, refl, sym, ap, ap₂, ◌∙◌, suc, bit_xor, arith}
use Rattle.reed_solomon.specs.Sum.{sum}
use Rattle.reed_solomon.specs.Register.{discrepancy}
use Rattle.reed_solomon.proofs.Sum.{sum_next}
use Rattle.reed_solomon.proofs.locator.discrepancy.Goals as goal

pub loop-i-init : goal.loop-i-init
unfolding sum
loop-i-init c = (refl, omega arith)

pub loop-i-preserved : goal.loop-i-preserved
loop-i-preserved c = (ap₂ bit_xor c.loop-i.invariant.0 c.mul-d.ensures ∙ sym (sum_next _ _), omega arith)

pub returns : goal.returns
unfolding discrepancy
returns c = let e : c.loop-i.i ≡ suc c.args.l = omega arith in c.loop-i.invariant.0 ∙ ap (sum _) e
