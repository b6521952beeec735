-- `fill_rows` meets its contract. Assumes nothing.
use Rattle.general.proofs.Names.{sym, ◌∙◌, arith}
use Rattle.remainder.proofs.Fill.{filled_start, filled_next, filled_end}
use Rattle.remainder.proofs.fill_rows.Goals as goal

pub loop-k-init : goal.loop-k-init
loop-k-init c = (filled_start _ _ c.requires.0 c.requires.1, omega arith)

pub fill_byte-requires : goal.fill_byte-requires
fill_byte-requires c = (omega arith, omega arith, c.loop-k.invariant.0.free _ (omega arith), c.loop-k.invariant.0.free _ (omega arith))

pub shifted-r-requires : goal.shifted-r-requires
shifted-r-requires c = (omega arith, omega arith)

pub loop-k-preserved : goal.loop-k-preserved
loop-k-preserved c = (filled_next _ _ _ _ _ _ c.loop-k.invariant.0 (omega arith) c.fill_byte.ensures c.shifted-r.ensures, omega arith)

pub shape_of-t : goal.shape_of-t
shape_of-t c = c.loop-k.invariant.0.size ∙ sym c.requires.0

pub returns : goal.returns
returns c = filled_end _ _ _ _ c.loop-k.invariant.0 c.loop-k.invariant.1 (omega arith)
