-- `finder_at` meets its contract.
use Rattle.symbol.proofs.CornerRows.{row_small}
use Rattle.symbol.specs.Layout.{finders}
use borrow.Author.Rules.{rules}
use Rattle.symbol.proofs.corners.finder_at.Goals as goal

pub returns : goal.returns
unfolding finders
returns c = (search rules, row_small _ _ c.requires.0 c.requires.1)
