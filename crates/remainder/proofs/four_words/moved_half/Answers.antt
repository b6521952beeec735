-- `moved_half` meets its contract. Assumes nothing.
use Rattle.remainder.proofs.Places.{register_eq}
use Rattle.remainder.proofs.four_words.moved_half.Goals as goal

pub returns : goal.returns
returns c = register_eq c.half_up.ensures c.half_up-2.ensures c.half_up-3.ensures c.half_up-4.ensures
