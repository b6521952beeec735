-- `information_line` meets its contract.
use Rattle.symbol.proofs.CornerRows.{information_row}
use Rattle.symbol.proofs.corners.information_line.Goals as goal

pub returns : goal.returns
returns c =
    information_row _ _ c.requires.0.big c.requires.0.inside c.requires.1 c.run.ensures
    c.run-2.ensures
