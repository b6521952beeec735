-- `spread` meets its contract. Assumes nothing.
use Rattle.drawing.proofs.Puts.{spread_is, spread_lt}
use Rattle.general.proofs.Names.{◌*◌, ◌/◌, ◌%◌, arith}
use Rattle.drawing.proofs.spread.Goals as goal

pub overflow_mul-result-2 : goal.overflow_mul-result-2
overflow_mul-result-2 c = omega (arith, spread_lt (c.args.v % 16 * 134480385 / 8))

pub overflow_add-result : goal.overflow_add-result
overflow_add-result c = omega (arith, spread_lt (c.args.v % 16 * 134480385 / 8), spread_lt (c.args.v / 16 * 134480385 / 8))

pub returns : goal.returns
returns c = spread_is c.args.v c.requires
