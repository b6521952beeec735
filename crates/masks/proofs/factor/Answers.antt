-- `factor` meets its contract. Assumes nothing.
use Rattle.masks.proofs.Three.{one_over, factor_lt, factor_eq}
use Rattle.general.proofs.Names.{div-le_self, arith}
use Rattle.masks.proofs.factor.Goals as goal

pub overflow_add-result : goal.overflow_add-result
overflow_add-result c = omega (arith, div-le_self 65535 c.args.j)

pub overflow_sub-result : goal.overflow_sub-result
overflow_sub-result c = omega (arith, one_over c.args.j)

pub overflow_cast-result : goal.overflow_cast-result
overflow_cast-result c = omega (arith, factor_lt c.args.j c.requires.0 c.requires.1)

pub returns : goal.returns
returns c = factor_eq c.args.j
