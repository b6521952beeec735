-- `step` meets its contract. Assumes nothing.
use Rattle.general.proofs.Names.{◌/◌, ◌^◌, arith, xor_lt}
use Rattle.remainder.proofs.Steps.{step_on}
use Rattle.remainder.proofs.step.Goals as goal

pub add_digits-requires : goal.add_digits-requires
add_digits-requires c = (c.requires.0, omega (arith, xor_lt 32 (c.args.r.a / 2 ^ 32) c.args.v (omega arith) (omega arith)))

pub returns : goal.returns
returns c = step_on _ _ _ _ _ _ (omega arith) (omega arith) (omega arith) c.moved_half.ensures c.add_digits.ensures (omega arith)
