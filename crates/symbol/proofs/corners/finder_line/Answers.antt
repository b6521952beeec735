-- `finder_line` meets its contract.
use Rattle.general.proofs.Names.{◌∙◌, arith, length-set}
use Rattle.symbol.proofs.CornerRows.{finder_row_lem}
use Rattle.symbol.proofs.corners.finder_line.Goals as goal

pub bounds-out-at-2 : goal.bounds-out-at-2
bounds-out-at-2 c = simp length-set (omega arith)

pub modules-requires-2 : goal.modules-requires-2
modules-requires-2 c = simp length-set (omega arith)

pub shape_of-out : goal.shape_of-out
shape_of-out c = c.modules-2.auto.out ∙ simp length-set c.modules.auto.out

pub returns : goal.returns
returns c =
    let room = c.requires.0 in
    finder_row_lem _ c.args.row room.big room.inside c.finder_row-left.result c.finder_row-right.result c.requires.1
    c.finder_row-left.ensures c.finder_row-right.ensures room.room
    c.modules.ensures c.modules-2.ensures
