-- `errors::doubled` meets its contract. Assumes nothing.
use Rattle.general.proofs.Names.{arith}
use Rattle.reed_solomon.proofs.errors.doubled.Goals as goal

pub returns-then-l-lt128 : goal.returns-then-l-lt128
returns-then-l-lt128 c = (omega arith, record { times = 0; is = omega arith })
