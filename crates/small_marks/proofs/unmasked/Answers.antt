-- `unmasked` meets its contract. Assumes nothing.
use Rattle.small_marks.proofs.Narrow.{narrow_is}
use Rattle.general.proofs.Names.{arith}
use Rattle.small_marks.proofs.unmasked.Goals as goal

pub returns : goal.returns
returns c = narrow_is c.args.mask c.args.at c.requires.0 (omega arith)
    c.eight.ensures c.gather.ensures
