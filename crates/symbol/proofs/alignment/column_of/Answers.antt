-- `column_of` meets its contract.
use Rattle.general.proofs.Names.{◌∙◌, ◌-◌, arith}
use Rattle.symbol.proofs.Coordinates.{small, unsigned, inside_of}
use Rattle.symbol.proofs.Lines.{column_is}
use Rattle.symbol.proofs.alignment.column_of.Goals as goal

pub overflow_cast-result : goal.overflow_cast-result
overflow_cast-result c = small _ (omega arith)

pub returns : goal.returns
returns c =
    let e = unsigned (c.args.p.side - 1 - c.line_of.result) (omega arith) in
    (e ∙ column_is c.requires.0 _ _ c.line_of.ensures.0 c.line_of.ensures.1, inside_of e (omega arith))
