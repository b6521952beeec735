-- `four_modules` meets its contract. Assumes nothing.
use Rattle.general.proofs.Names.{◌*◌, ◌/◌, arith}
use Rattle.symbol.proofs.Fours.{apart_lt}
use Rattle.symbol.proofs.corners.four_modules.Goals as goal

pub overflow_add-result : goal.overflow_add-result
overflow_add-result c = omega (arith, apart_lt (c.args.digit * 134480385 / 8))
