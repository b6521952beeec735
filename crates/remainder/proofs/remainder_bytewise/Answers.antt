-- `remainder_bytewise` meets its contract. Assumes nothing.
use Rattle.general.proofs.Names.{◌≡◌, arith}
use Rattle.remainder.proofs.Steps.{left_none, left_byte}
use Rattle.remainder.proofs.remainder_bytewise.Goals as goal

pub loop-i-init : goal.loop-i-init
loop-i-init c = (omega arith, left_none _ _)

pub shifted-r-requires : goal.shifted-r-requires
shifted-r-requires c = (omega arith, c.as_u64.ensures.1)

pub loop-i-preserved : goal.loop-i-preserved
loop-i-preserved c = (omega arith, left_byte _ _ _ _ _ _ c.loop-i.invariant.1 (omega arith) (omega arith) c.shifted-r.ensures)

pub returns : goal.returns
returns c = let e : c.loop-i.i ≡ c.args.k = omega arith in rw e at c.loop-i.invariant.1
