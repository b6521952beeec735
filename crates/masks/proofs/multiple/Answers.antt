-- `multiple` meets its contract. Assumes nothing.
use Rattle.masks.proofs.Three.{product_lt}
use Rattle.general.proofs.Names.{bit_and, ap₂, ℕ, ◌*◌, ◌/◌, arith}
use Rattle.masks.proofs.multiple.Goals as goal

pub overflow_mul-result : goal.overflow_mul-result
overflow_mul-result c = omega (arith, product_lt c.long.ensures.1 c.long-2.ensures.1)

pub overflow_cast-result : goal.overflow_cast-result
overflow_cast-result c = omega (arith, product_lt c.long.ensures.1 c.long-2.ensures.1)

pub returns : goal.returns
returns c = ap₂ (λ (a b : ℕ). bit_and (a * b / 65536) c.args.j) c.long.ensures.0 c.long-2.ensures.0
