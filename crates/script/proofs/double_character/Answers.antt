-- `double_character` meets its contract. Assumes nothing.
use Rattle.general.proofs.Names.{sym, ◌∙◌}
use Rattle.script.specs.Characters.{double_character}
use Rattle.script.proofs.double_character.Goals as goal

pub returns-then-in_double : goal.returns-then-in_double
unfolding double_character
returns-then-in_double c = rw (sym c.in_double.ensures ∙ c.if-in_double.true, c.double_code.ensures)

pub returns : goal.returns
unfolding double_character
returns c = rw (sym c.in_double.ensures ∙ c.if-in_double.false)
