-- `command_size` meets its contract. Assumes nothing.
use Rattle.general.proofs.Names.{arith, eq-eqb, ne_eqb}
use Rattle.script.specs.Inner.{command_size}
use Rattle.script.proofs.commands.command_size.Goals as goal

pub returns-then-mode-eq-FOUR_BYTE : goal.returns-then-mode-eq-FOUR_BYTE
unfolding command_size
returns-then-mode-eq-FOUR_BYTE c = (rw (eq-eqb _ 7 c.if-mode-eq-FOUR_BYTE.true), omega arith, omega arith)

pub returns-else-mode-eq-FOUR_BYTE : goal.returns-else-mode-eq-FOUR_BYTE
unfolding command_size
returns-else-mode-eq-FOUR_BYTE c = (rw (ne_eqb _ 7 c.if-mode-eq-FOUR_BYTE.false), omega arith, omega arith)
