-- `syndromes::clean` meets its contract. Assumes nothing.
use Rattle.general.proofs.Names.{arith}
use borrow.Author.Count.{below_more}
use Rattle.reed_solomon.proofs.Clean.{clean_yes, clean_no}
use Rattle.reed_solomon.proofs.syndromes.clean.Goals as goal

pub loop-j-init : goal.loop-j-init
loop-j-init c = ((λ k h. absurd (omega arith)), omega arith)

pub returns-then-s-j-ne0 : goal.returns-then-s-j-ne0
returns-then-s-j-ne0 c = clean_no _ _ _ (omega arith) c.if-s-j-ne0.true

pub loop-j-preserved : goal.loop-j-preserved
loop-j-preserved c = (below_more _ _ c.loop-j.invariant.0 c.if-s-j-ne0.false, omega arith)

pub returns : goal.returns
returns c = clean_yes _ _ (λ k h. c.loop-j.invariant.0 k (omega arith))
