-- `bits_refusal` meets its contract: 13 exactly where the bits are more than the room. Assumes nothing.
use native.Mathlib.Omega.{arith}
use Rattle.writer.proofs.DataRoom.{room_is}
use Rattle.writer.proofs.Refusals.{too_many, no_more}
use Rattle.writer.proofs.bits_refusal.Goals as goal

pub data_length-requires : goal.data_length-requires
data_length-requires c = c.requires.1.nine

pub overflow_mul-data_length : goal.overflow_mul-data_length
overflow_mul-data_length c = omega (arith, (room_is c.requires.0 _ c.requires.1.is _ c.data_length.ensures).1)

pub returns-then-data_length-bits : goal.returns-then-data_length-bits
returns-then-data_length-bits c = too_many _ _ _ _ (room_is c.requires.0 _ c.requires.1.is _ c.data_length.ensures).0 (omega (arith, c.if-data_length-bits.true))

pub returns : goal.returns
returns c = no_more _ _ _ _ (room_is c.requires.0 _ c.requires.1.is _ c.data_length.ensures).0 (omega (arith, c.if-data_length-bits.false))
