-- `script_refusal` meets its contract: one case of the check's answer after the other. Assumes nothing.
use Rattle.script.specs.declared.Check.TheVariants.{Malformed, Lacking, Empty}
use Rattle.writer.proofs.DataRoom.{room_small}
use Rattle.writer.proofs.Refusals.{script_bits, script_other}
use Rattle.general.proofs.Names.{arith}
use Rattle.writer.proofs.script_refusal.Goals as goal

pub returns-in-Bits : goal.returns-in-Bits
returns-in-Bits c = let R = c.requires.0 in
    script_bits _ _ _ _ _ _ _ (room_small _ _ R.low R.high R.level) c.in-Bits.is
    c.check_script.ensures
    c.bits_refusal.ensures

pub returns-in-Malformed : goal.returns-in-Malformed
returns-in-Malformed c = script_other _ _ _ _ _ Malformed (λ z. omega arith) c.in-Malformed.is c.check_script.ensures

pub returns-in-Lacking : goal.returns-in-Lacking
returns-in-Lacking c = script_other _ _ _ _ _ Lacking (λ z. omega arith) c.in-Lacking.is c.check_script.ensures

pub returns-in-Empty : goal.returns-in-Empty
returns-in-Empty c = script_other _ _ _ _ _ Empty (λ z. omega arith) c.in-Empty.is c.check_script.ensures
