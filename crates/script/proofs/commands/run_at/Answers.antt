-- `run_at` meets its contract. Assumes nothing.
use Rattle.general.proofs.Names.{sym, ◌∙◌}
use Rattle.script.proofs.Checks.{run_cut, run_read, run_wrong}
use Rattle.script.proofs.commands.run_at.Goals as goal

pub returns-then-script-i-lt3 : goal.returns-then-script-i-lt3
returns-then-script-i-lt3 c = run_cut c.args.script.now _ c.if-script-i-lt3.true

pub returns-then-is_allowed : goal.returns-then-is_allowed
returns-then-is_allowed c =
    run_read _ c.args.i _ _ _ c.if-script-i-lt3.false c.as_usize-mode.ensures.0
    c.as_usize.ensures.0 c.as_usize-2.ensures.0 (sym c.is_allowed.ensures ∙ c.if-is_allowed.true)

pub returns : goal.returns
returns c =
    run_wrong _ c.args.i _ _ _ c.if-script-i-lt3.false c.as_usize-mode.ensures.0
    c.as_usize.ensures.0 c.as_usize-2.ensures.0 (sym c.is_allowed.ensures ∙ c.if-is_allowed.false)
