-- `first_erased` meets its contract. Assumes nothing.
use Rattle.general.proofs.Names.{arith}
use Rattle.erasure_corrector.proofs.first_erased.Goals as goal

pub returns-then-flags-k-ne0 : goal.returns-then-flags-k-ne0
returns-then-flags-k-ne0 c = λ h. c.if-flags-k-ne0.true

pub returns : goal.returns
returns c = λ h. absurd (omega arith)
