-- `crossings` meets its contract.
use Rattle.general.proofs.Names.{arith}
use Rattle.symbol.specs.Layout.{crossings}
use Rattle.symbol.proofs.Lines.{fits_square}
use Rattle.symbol.proofs.Plots.{begun, again, ended}
use Rattle.symbol.proofs.alignment.crossings.Goals as goal

pub loop-n-init : goal.loop-n-init
unfolding crossings
loop-n-init c = begun

pub row_crossings-requires : goal.row_crossings-requires
unfolding crossings
row_crossings-requires c = (fits_square c.requires c.loop-n.invariant.kept, omega arith)

pub overflow_add-n : goal.overflow_add-n
unfolding crossings
overflow_add-n c = omega arith

pub loop-n-smaller : goal.loop-n-smaller
unfolding crossings
loop-n-smaller c = omega arith

pub loop-n-preserved : goal.loop-n-preserved
loop-n-preserved c = again (omega arith) c.loop-n.invariant c.row_crossings.ensures c.row_crossings.auto.grid

pub shape_of-grid : goal.shape_of-grid
unfolding crossings
shape_of-grid c = c.loop-n.invariant.kept

pub returns : goal.returns
unfolding crossings
returns c = ended (omega arith) c.loop-n.invariant
