-- `info_position` meets its contract. Assumes nothing.
use Rattle.general.proofs.Names.{true, false, ◌+◌, ◌*◌, ◌<◌, arith}
use Rattle.symbol.proofs.Coordinates.{square_le}
use Rattle.information.proofs.Copies.{row_fits, first_is, second_is, first_lt, by_copy}
use Rattle.information.proofs.info_position.Goals as goal
use Rattle.information.proofs.info_position.Goals.{After-position_column}

-- the place lies in the square
place : (c : After-position_column) → let side = c.args.side in c.position_row.result * side + c.position_column.result < side * side
place c = first_lt _ _ c.requires.0 c.requires.1 c.requires.2 c.position_row.ensures c.position_column.ensures

pub overflow_mul-i : goal.overflow_mul-i
overflow_mul-i c = omega (arith, row_fits c.args.side c.args.n c.requires.0 c.requires.1 c.requires.2 c.position_row.ensures)

pub overflow_add-i : goal.overflow_add-i
overflow_add-i c = omega (arith, place (goal.at.overflow_add-i c).After-position_column, square_le _ c.requires.1)

pub overflow_mul-result : goal.overflow_mul-result
overflow_mul-result c = omega (arith, square_le c.args.side c.requires.1)

pub overflow_sub-result : goal.overflow_sub-result
overflow_sub-result c = omega (arith, place (goal.at.overflow_sub-result c).After-position_column)

pub overflow_sub-result-then-second : goal.overflow_sub-result-then-second
overflow_sub-result-then-second c = omega (arith, place (goal.at.overflow_sub-result-then-second c).After-position_column)

pub returns-then-second : goal.returns-then-second
returns-then-second c =
    let is = second_is _ _ c.requires.0 c.requires.1 c.requires.2 c.position_row.ensures c.position_column.ensures in
    (by_copy _ _ _ _ true c.if-second.true is, omega (arith, place (goal.at.returns-then-second c).After-position_column))

pub returns : goal.returns
returns c =
    let is = first_is _ _ c.requires.0 c.requires.1 c.requires.2 c.position_row.ensures c.position_column.ensures in
    (by_copy _ _ _ _ false c.if-second.false is, omega (arith, place (goal.at.returns c).After-position_column))
