-- `write_bit` meets its contract. Assumes nothing.
use Rattle.general.proofs.Names.{arith, ◌∙◌, sym}
use Rattle.bits.proofs.Writing.{bit_flipped, bit_there}
use Rattle.bits.proofs.write_bit.Goals as goal

pub returns-then-bit-b : goal.returns-then-bit-b
returns-then-bit-b c = bit_flipped _ _ _ (omega arith) (omega arith) (λ e. c.if-bit-b.true (c.bit.ensures ∙ e))

pub returns-else-bit-b : goal.returns-else-bit-b
returns-else-bit-b c = bit_there _ _ _ (sym c.bit.ensures ∙ c.if-bit-b.false)
