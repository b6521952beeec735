-- `moved` meets its contract. Assumes nothing.
use Rattle.remainder.proofs.Places.{register_eq}
use Rattle.remainder.proofs.four_words.moved.Goals as goal

pub returns : goal.returns
returns c = register_eq c.byte_up.ensures c.byte_up-2.ensures c.byte_up-3.ensures c.byte_up-4.ensures
