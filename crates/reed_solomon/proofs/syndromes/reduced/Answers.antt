-- `syndromes::reduced` meets its contract. Assumes nothing.
use Rattle.general.proofs.Names.{arith}
use Rattle.reed_solomon.proofs.syndromes.reduced.Goals as goal

pub returns-then-n-lt255 : goal.returns-then-n-lt255
returns-then-n-lt255 c = (omega arith, record { times = 0; is = omega arith })

pub returns-else-n-lt255 : goal.returns-else-n-lt255
returns-else-n-lt255 c = (omega arith, record { times = 1; is = omega arith })
