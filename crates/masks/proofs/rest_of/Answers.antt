-- `rest_of` meets its contract. Assumes nothing.
use Rattle.masks.proofs.Three.{one_over, rest_eq}
use Rattle.general.proofs.Names.{arith}
use Rattle.masks.proofs.rest_of.Goals as goal

pub overflow_add-result : goal.overflow_add-result
overflow_add-result c = omega (arith, one_over c.args.j)

pub overflow_cast-result : goal.overflow_cast-result
overflow_cast-result c = omega (arith, one_over c.args.j)

pub returns : goal.returns
returns c = rest_eq c.args.j
