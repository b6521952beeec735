-- `extend` meets its contract. Assumes nothing.
use Rattle.general.proofs.Names.{◌≡◌, arith}
use Rattle.remainder.proofs.Fill.{extended_start, extended_next}
use Rattle.remainder.proofs.extend.Goals as goal

pub loop-f-init : goal.loop-f-init
loop-f-init c = (extended_start _ _ _ _, omega arith)

pub row_at-row-requires : goal.row_at-row-requires
row_at-row-requires c = (omega arith, omega arith)

pub put_row-requires : goal.put_row-requires
put_row-requires c = (omega arith, omega arith)

pub loop-f-preserved : goal.loop-f-preserved
loop-f-preserved c = (extended_next _ _ _ _ _ _ _ _ _ c.loop-f.invariant.0 (omega arith) c.row_at-row.ensures c.sum.ensures c.put_row.ensures, omega arith)

pub shape_of-t : goal.shape_of-t
shape_of-t c = c.loop-f.invariant.0.size

pub returns : goal.returns
returns c = let e : c.loop-f.f ≡ c.args.n = omega arith in rw e at c.loop-f.invariant.0
