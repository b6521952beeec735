-- `prepare` meets its contract. Assumes nothing.
use Rattle.remainder.proofs.prepare.Goals as goal

pub returns : goal.returns
returns c = record { size = c.fill_rows.ensures.0; rows = λ T j h. c.fill_rows.ensures.1 _ (c.generator.ensures T j h) }
