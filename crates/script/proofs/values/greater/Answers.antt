-- `greater` meets its contract. Assumes nothing.
use native.Mathlib.Omega.{arith}
use Rattle.script.proofs.Runs.{right_greater, left_greater}
use Rattle.script.proofs.values.greater.Goals as goal

pub returns-then-a-b : goal.returns-then-a-b
returns-then-a-b c = right_greater c.args.a c.args.b (omega arith)

pub returns : goal.returns
returns c = left_greater c.args.a c.args.b (omega arith)
