-- `pattern` meets its contract. Assumes nothing.
use Rattle.drawing.proofs.Puts.{pattern_light, pattern_dark}
use native.Mathlib.Omega.{arith}
use Rattle.drawing.proofs.pattern.Goals as goal

pub returns-then-kind-lt3 : goal.returns-then-kind-lt3
returns-then-kind-lt3 c = pattern_light _ (omega arith)

pub returns : goal.returns
returns c = pattern_dark _ (omega arith)
