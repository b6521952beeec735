-- `crossing` meets its contract.
use Rattle.general.proofs.Names.{ap, arith}
use Rattle.symbol.specs.Layout.{line_left, line_down, row_line, column_line}
use Rattle.symbol.proofs.Coordinates.{ok, inside_call}
use Rattle.symbol.proofs.Plots.{none, next, exactly, heard, crossing_odd, crossing_first, crossing_on}
use Rattle.symbol.proofs.alignment.crossing.Goals as goal

pub returns-then-n-j-eq1 : goal.returns-then-n-j-eq1
returns-then-n-j-eq1 c = exactly (crossing_odd _ _ _ c.if-n-j-eq1.true) none

pub returns-then-n-j-eq0 : goal.returns-then-n-j-eq0
returns-then-n-j-eq0 c = exactly (crossing_first _ _ _ c.if-n-j-eq0.true) none

pub line_left-requires : goal.line_left-requires
line_left-requires c = let q = c.requires.0 in
    (omega arith, q.room, inside_call c.column_of-x.type_inv c.column_of-x.ensures.1, inside_call c.row_of-y.type_inv c.row_of-y.ensures.1, omega arith)

pub line_down-requires : goal.line_down-requires
line_down-requires c =
    let step = c.step-2.ensures.1 in
    (omega arith, omega arith, inside_call c.column_of-x.type_inv c.column_of-x.ensures.1, inside_call c.row_of-y.type_inv c.row_of-y.ensures.1, step.0, omega arith)

pub returns : goal.returns
returns c =
    let v = c.args.p.version in
    exactly (crossing_on v _ _ c.if-n-j-eq1.false c.if-n-j-eq0.false)
    (next (exactly (ap (line_left _ (row_line v c.args.n)) c.step.ensures.0)
    (heard (λ a b. line_left a b c.step.result) (ok c.column_of-x.result c.column_of-x.type_inv) (ok c.row_of-y.result c.row_of-y.type_inv) c.column_of-x.ensures.0 c.row_of-y.ensures.0
    c.line_left.ensures))
    (exactly (ap (line_down (column_line v c.args.j) (row_line v c.args.n)) c.step-2.ensures.0)
    (heard (λ a b. line_down a b c.step-2.result) (ok c.column_of-x.result c.column_of-x.type_inv) (ok c.row_of-y.result c.row_of-y.type_inv) c.column_of-x.ensures.0 c.row_of-y.ensures.0
    c.line_down.ensures)))
