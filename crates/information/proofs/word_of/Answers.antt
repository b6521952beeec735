-- `word_of` meets its contract. Assumes nothing.
use Rattle.information.specs.Information.{word_of}
use Rattle.information.proofs.word_of.Goals as goal

pub returns : goal.returns
unfolding word_of
returns c = rw (← c.remainder-a.ensures.0, ← c.remainder-b.ensures.0, ← c.remainder-c.ensures.0)
