-- `put_bit` meets its contract. Assumes nothing.
use Rattle.bits.proofs.Reading.{bit_lt}
use Rattle.drawing.proofs.Puts.{put_none}
use Rattle.general.proofs.Names.{bit_xor, set, refl, ap, ℕ, arith}
use Rattle.drawing.proofs.put_bit.Goals as goal

pub returns-then-codewords-bit : goal.returns-then-codewords-bit
returns-then-codewords-bit c = put_none _ _ _ _ _ (omega arith)

pub overflow_cast-square : goal.overflow_cast-square
overflow_cast-square c = omega (arith, bit_lt c.args.codewords.now c.args.bit)

pub returns : goal.returns
returns c = record { is = ap (λ (y : ℕ). set c.args.square.now c.args.at (bit_xor y c.args.inverted)) c.bit.ensures; left = refl }
