-- `places::value` meets its contract: Horner's rule, coefficient by coefficient. Assumes nothing.
use Rattle.general.proofs.Names.{◌≡◌, refl, ap, ◌∙◌, suc, arith}
use Rattle.reed_solomon.specs.Sum.{horner}
use Rattle.comparison.proofs.Horner.{horner_next}
use Rattle.comparison.proofs.places.value.Goals as goal

pub loop-i-init : goal.loop-i-init
unfolding horner
loop-i-init c = (refl, omega arith)

pub loop-i-preserved : goal.loop-i-preserved
loop-i-preserved c = (horner_next _ _ _ _ _ _ c.loop-i.invariant.0 c.raised.ensures, omega arith)

pub returns : goal.returns
returns c = let e : c.loop-i.i ≡ suc c.args.l = omega arith in c.loop-i.invariant.0 ∙ ap (horner _ _ _) e
