-- `generator` meets its contract: the two prints of the table are the same, and a computed test is about one of them. Assumes nothing.
use Rattle.general.proofs.Names.{arith}
use Rattle.remainder.specs.Generators.{generators}
use Rattle.remainder.proofs.Generators.{generator_zero}
use Rattle.remainder.proofs.generator.Goals as goal

pub returns-then-parity-lt2 : goal.returns-then-parity-lt2
unfolding generators
returns-then-parity-lt2 c = λ T j h. absurd (omega arith)

pub returns-then-parity-gt32 : goal.returns-then-parity-gt32
unfolding generators
returns-then-parity-gt32 c = λ T j h. absurd (omega arith)

pub returns : goal.returns
unfolding generators
returns c = λ T j h. rw c.row_at.ensures (generator_zero _ j T.0 T.1 T.2 h)
