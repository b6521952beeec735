-- `line_ends` meets its contract.
use Rattle.symbol.proofs.alignment.line_ends.Goals as goal

pub returns-then-rows : goal.returns-then-rows
returns-then-rows c = rw c.if-rows.true c.row_ends.ensures

pub returns : goal.returns
returns c = rw c.if-rows.false c.column_ends.ensures
