-- `modules` meets its contract. Assumes nothing.
use Rattle.general.proofs.Names.{arith}
use Rattle.symbol.proofs.Fours.{stored_eight}
use Rattle.symbol.proofs.corners.modules.Goals as goal

pub returns : goal.returns
returns c = stored_eight _
    _ _ _ (omega arith)
    c.four_modules.ensures c.four_modules-2.ensures
    c.put_four.ensures c.put_four-2.ensures
