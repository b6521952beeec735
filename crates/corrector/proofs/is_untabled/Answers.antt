-- `is_untabled` meets its contract. Assumes nothing.
use Rattle.general.proofs.Names.{true≢false, arith}
use Rattle.corrector.proofs.is_untabled.Goals as goal

pub returns-then-parity-lt2 : goal.returns-then-parity-lt2
returns-then-parity-lt2 c = λ e. absurd (true≢false e)

pub returns-then-parity-gt32 : goal.returns-then-parity-gt32
returns-then-parity-gt32 c = λ e. absurd (true≢false e)

pub returns-then-n-parity : goal.returns-then-n-parity
returns-then-n-parity c = λ e. absurd (true≢false e)

pub returns-then-n-gt255 : goal.returns-then-n-gt255
returns-then-n-gt255 c = λ e. absurd (true≢false e)

pub returns-then-parity-ne0 : goal.returns-then-parity-ne0
returns-then-parity-ne0 c = λ e. absurd (true≢false e)

pub returns : goal.returns
returns c = λ e. ((omega arith, omega arith, omega arith), omega arith, omega arith)
