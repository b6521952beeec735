-- `batch_of` meets its contract: three numbers of the row, each a byte. Assumes nothing.
use Rattle.general.proofs.Names.{refl, ℕ, ◌+◌, ◌*◌, ◌≤◌, mul-le-mul, arith}
use Rattle.blocks.proofs.batch_of.Goals as goal

product : (a b : ℕ) → a ≤ 255 → b ≤ 255 → a * b ≤ 65025
product a b h k = mul-le-mul h k

pub overflow_cast-result : goal.overflow_cast-result
overflow_cast-result c = omega (arith, c.type_inv.row (3 * c.args.k))

pub overflow_cast-result-2 : goal.overflow_cast-result-2
overflow_cast-result-2 c = omega (arith, c.type_inv.row (3 * c.args.k + 1))

pub overflow_cast-result-3 : goal.overflow_cast-result-3
overflow_cast-result-3 c = omega (arith, c.type_inv.row (3 * c.args.k + 2))

pub returns : goal.returns
returns c =
    let at = 3 * c.args.k in
    record {
      is = refl;
      info = omega (arith, c.type_inv.row (at + 1));
      parity = omega (arith, c.type_inv.row (at + 2));
      «data» = product _ _ (omega (arith, c.type_inv.row at)) (omega (arith, c.type_inv.row (at + 1)));
    }
