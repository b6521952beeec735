-- `hx_check_script` meets its contract. Assumes nothing.
use Rattle.general.proofs.Names.{refl, sym, ◌∙◌}
use Rattle.comparison.proofs.scripts.hx_check_script.Goals as goal

pub returns-in-Bits : goal.returns-in-Bits
returns-in-Bits c = rw (sym c.check_script-answer.ensures ∙ c.in-Bits.is) (refl, refl)

pub returns-in-Malformed : goal.returns-in-Malformed
returns-in-Malformed c = rw (sym c.check_script-answer.ensures ∙ c.in-Malformed.is) (refl, refl)

pub returns-in-Lacking : goal.returns-in-Lacking
returns-in-Lacking c = rw (sym c.check_script-answer.ensures ∙ c.in-Lacking.is) (refl, refl)

pub returns-in-Empty : goal.returns-in-Empty
returns-in-Empty c = rw (sym c.check_script-answer.ensures ∙ c.in-Empty.is) (refl, refl)
