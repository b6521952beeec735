-- `digit_value` meets its contract. Assumes nothing.
use Rattle.script.proofs.Runs.{digit_value, not_a_digit}
use Rattle.script.proofs.values.digit_value.Goals as goal

pub returns-then-b-lt48 : goal.returns-then-b-lt48
returns-then-b-lt48 c = not_a_digit _ c.if-b-lt48.true

pub returns : goal.returns
returns c = digit_value _ c.if-b-lt48.false
