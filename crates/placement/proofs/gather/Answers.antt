-- `gather` meets its contract. Assumes nothing.
use Rattle.placement.proofs.Eights.{gather_is}
use Rattle.general.proofs.Names.{◌+◌, ◌*◌, ◌/◌, ◌%◌, and_le_r, arith}
use Rattle.placement.proofs.gather.Goals as goal

pub overflow_mul-result : goal.overflow_mul-result
overflow_mul-result c = let x = c.args.x in record { fits = omega (arith, and_le_r (x % 4294967296 * 16 + x / 4294967296) 0x11111111) }

pub returns : goal.returns
returns c = record { small = omega arith; is = λ b h e. gather_is b h _ e }
