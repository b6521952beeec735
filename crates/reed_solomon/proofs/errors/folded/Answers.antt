-- `errors::folded` meets its contract. Assumes nothing.
use Rattle.general.proofs.Names.{◌/◌, arith}
use Rattle.reed_solomon.proofs.errors.folded.Goals as goal

pub returns-then-l-lt64 : goal.returns-then-l-lt64
returns-then-l-lt64 c = (omega arith, record { times = 0; is = omega arith })

pub returns : goal.returns
returns c = (omega arith, record { times = c.args.n / 255; is = omega arith })
