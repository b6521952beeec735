-- `alignment` meets its contract.
use Rattle.symbol.proofs.Plots.{next}
use Rattle.symbol.specs.Layout.{alignment}
use Rattle.symbol.proofs.alignment.alignment.Goals as goal

pub returns : goal.returns
unfolding alignment
returns c = next c.lines_ends.ensures (next c.lines_ends-2.ensures c.crossings.ensures)
