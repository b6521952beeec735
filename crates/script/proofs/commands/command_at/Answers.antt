-- `command_at` meets its contract. Assumes nothing.
use Rattle.general.proofs.Names.{sym, ◌∙◌}
use Rattle.script.proofs.Checks.{command_four, command_eci, command_zero, command_large, command_run}
use Rattle.script.proofs.commands.command_at.Goals as goal

pub returns-then-m-eq-FOUR_BYTE : goal.returns-then-m-eq-FOUR_BYTE
returns-then-m-eq-FOUR_BYTE c = command_four c.args.script.now _ _ c.as_usize-m.ensures.0 c.if-m-eq-FOUR_BYTE.true

pub returns-then-m-eq-ECI : goal.returns-then-m-eq-ECI
returns-then-m-eq-ECI c =
    c.eci_at.ensures ∙ sym
    (command_eci c.args.script.now _ _ c.as_usize-m.ensures.0 c.if-m-eq-FOUR_BYTE.false c.if-m-eq-ECI.true)

pub returns-then-m-lt-NUMERIC : goal.returns-then-m-lt-NUMERIC
returns-then-m-lt-NUMERIC c = command_zero c.args.script.now _ _ c.as_usize-m.ensures.0 c.if-m-eq-FOUR_BYTE.false c.if-m-eq-ECI.false c.if-m-lt-NUMERIC.true

pub returns-then-m-gt-TWO_BYTE : goal.returns-then-m-gt-TWO_BYTE
returns-then-m-gt-TWO_BYTE c =
    command_large c.args.script.now _ _ c.as_usize-m.ensures.0 c.if-m-eq-FOUR_BYTE.false c.if-m-eq-ECI.false
    c.if-m-lt-NUMERIC.false c.if-m-gt-TWO_BYTE.true

pub returns : goal.returns
returns c =
    c.run_at.ensures ∙ sym
    (command_run c.args.script.now _ _ c.as_usize-m.ensures.0 c.if-m-eq-FOUR_BYTE.false c.if-m-eq-ECI.false
    c.if-m-lt-NUMERIC.false c.if-m-gt-TWO_BYTE.false)
