-- `fill_digit` meets its contract. Assumes nothing.
use Rattle.general.proofs.Names.{◌≡◌, arith}
use Rattle.remainder.proofs.Fill.{bit_of, filling_start, filling_next}
use Rattle.remainder.proofs.fill_digit.Goals as goal

pub loop-b-init : goal.loop-b-init
loop-b-init c = (filling_start _ _ _ c.requires.1 c.requires.2, omega arith)

pub extend-requires : goal.extend-requires
extend-requires c = let one = bit_of c.loop-b.b (omega arith) in (omega arith, omega arith)

pub loop-b-preserved : goal.loop-b-preserved
loop-b-preserved c = (
  filling_next _ _ _ c.requires.1 _ _ _ _ _ c.loop-b.invariant.0 (omega arith) (rw (bit_of c.loop-b.b (omega arith)).0 at c.extend.ensures)
      c.doubled-r.ensures,
  omega arith,
)

pub shape_of-t : goal.shape_of-t
shape_of-t c = c.loop-b.invariant.0.size

pub returns : goal.returns
returns c = let e : c.loop-b.b ≡ 4 = omega arith in rw e at c.loop-b.invariant.0
