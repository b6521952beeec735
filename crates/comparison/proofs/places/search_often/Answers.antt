-- `places::search_often` meets its contract: the values found last are those of the locator. Assumes nothing.
use Rattle.general.proofs.Names.{sym, ◌∙◌, arith}
use Rattle.comparison.proofs.places.search_often.Goals as goal

pub loop-k-init : goal.loop-k-init
loop-k-init c = (c.search.ensures, omega arith)

pub search-requires-in-loop-k : goal.search-requires-in-loop-k
search-requires-in-loop-k c = record { field = c.requires.field; l_bound = (c.requires.l_bound.0, c.requires.l_bound.1, c.requires.l_bound.2, c.requires.l_bound.3, c.loop-k.invariant.0.size) }

pub loop-k-preserved : goal.loop-k-preserved
loop-k-preserved c = (c.search-in-loop-k.ensures, omega arith)

pub shape_of-e : goal.shape_of-e
shape_of-e c = c.loop-k.invariant.0.size ∙ sym c.requires.l_bound.4

pub returns : goal.returns
returns c = c.loop-k.invariant.0
