-- `row_of` meets its contract.
use Rattle.general.proofs.Names.{ap, ◌∙◌, arith}
use lib.IntN.{pos}
use Rattle.symbol.proofs.Coordinates.{small, unsigned, inside_of}
use Rattle.symbol.proofs.alignment.row_of.Goals as goal

pub overflow_cast-result : goal.overflow_cast-result
overflow_cast-result c = small _ (omega arith)

pub returns : goal.returns
returns c = let e = unsigned c.line_of.result (omega arith) in (e ∙ ap pos c.line_of.ensures.0, inside_of e c.line_of.ensures.1)
