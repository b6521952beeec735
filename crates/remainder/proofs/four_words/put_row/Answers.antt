-- `put_row` meets its contract. Assumes nothing.
use Rattle.general.proofs.Names.{arith, length-set}
use Rattle.remainder.proofs.Places.{put_is}
use Rattle.remainder.proofs.four_words.put_row.Goals as goal

pub bounds-t-at-2 : goal.bounds-t-at-2
bounds-t-at-2 c = simp length-set (omega arith)

pub bounds-t-at-3 : goal.bounds-t-at-3
bounds-t-at-3 c = simp length-set (omega arith)

pub bounds-t-at-4 : goal.bounds-t-at-4
bounds-t-at-4 c = simp length-set (omega arith)

pub returns : goal.returns
returns c = put_is _ _ _ (omega arith)
