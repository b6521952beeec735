-- `step` meets its contract.
use Rattle.general.proofs.Names.{sym, rules}
use Rattle.symbol.proofs.Lines.{near_step, far_step}
use Rattle.symbol.proofs.alignment.step.Goals as goal

pub returns-then-n-p : goal.returns-then-n-p
returns-then-n-p c = (sym (near_step c.requires _ c.if-n-p.true), search rules)

pub returns : goal.returns
returns c = (sym (far_step c.requires _ c.if-n-p.false), search rules)
