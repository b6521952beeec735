-- `look_at` meets its contract. Assumes nothing.
use Rattle.reed_solomon.proofs.Magnitudes.{small_product}
use Rattle.reader.proofs.Bytes.{wrong_size, right_square, all_modules, told, untold}
use Rattle.general.proofs.Names.{arith}
use Rattle.reader.proofs.look_at.Goals as goal

pub overflow_mul-side : goal.overflow_mul-side
overflow_mul-side c = omega (arith, small_product c.args.side c.args.side (omega arith) (omega arith))

pub returns-then-square-side : goal.returns-then-square-side
returns-then-square-side c = (wrong_size c.args.square.now c.args.side c.if-square-side.true, told _)

pub returns : goal.returns
returns c = (
  right_square c.args.square.now c.args.side c.if-square-side.false
      (all_modules _ _ c.greatest-top.ensures (omega arith)),
  untold _ _ c.greatest-top.ensures,
)
