-- `zero_bytes` meets its contract. Assumes nothing.
use Rattle.placement.proofs.Runs.{zero_bytes_first}
use lib.Count.{trailing_le}
use native.Mathlib.Omega.{arith}
use Rattle.placement.proofs.zero_bytes.Goals as goal

pub overflow_cast-result : goal.overflow_cast-result
overflow_cast-result c = omega (arith, trailing_le 64 c.args.x)

pub returns : goal.returns
returns c = zero_bytes_first _
