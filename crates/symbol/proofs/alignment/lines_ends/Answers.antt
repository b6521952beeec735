-- `lines_ends` meets its contract.
use Rattle.general.proofs.Names.{arith}
use Rattle.symbol.proofs.Lines.{fits_square}
use Rattle.symbol.proofs.Plots.{begun, again, ended}
use Rattle.symbol.proofs.alignment.lines_ends.Goals as goal

pub loop-n-init : goal.loop-n-init
loop-n-init c = begun

pub line_ends-requires : goal.line_ends-requires
line_ends-requires c = (fits_square c.requires c.loop-n.invariant.kept, omega arith)

pub overflow_add-n : goal.overflow_add-n
overflow_add-n c = omega arith

pub loop-n-smaller : goal.loop-n-smaller
loop-n-smaller c = omega arith

pub loop-n-preserved : goal.loop-n-preserved
loop-n-preserved c = again (omega arith) c.loop-n.invariant c.line_ends.ensures c.line_ends.auto.grid

pub shape_of-grid : goal.shape_of-grid
shape_of-grid c = c.loop-n.invariant.kept

pub returns : goal.returns
returns c = ended (omega arith) c.loop-n.invariant
