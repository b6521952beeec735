-- `doubled` meets its contract. Assumes nothing.
use Rattle.remainder.proofs.Places.{register_eq}
use Rattle.remainder.proofs.four_words.doubled.Goals as goal

pub returns : goal.returns
returns c = register_eq c.double.ensures c.double-2.ensures c.double-3.ensures c.double-4.ensures
