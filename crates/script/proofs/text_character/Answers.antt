-- `text_character` meets its contract. Assumes nothing.
use Rattle.general.proofs.Names.{sym, ◌∙◌}
use Rattle.script.specs.Characters.{text_character}
use Rattle.script.proofs.text_character.Goals as goal

pub returns-then-in_subset : goal.returns-then-in_subset
unfolding text_character
returns-then-in_subset c = rw (sym c.in_subset.ensures ∙ c.if-in_subset.true, c.code.ensures)

pub returns-then-in_subset-2 : goal.returns-then-in_subset-2
unfolding text_character
returns-then-in_subset-2 c = rw (sym c.in_subset.ensures ∙ c.if-in_subset.false, sym c.in_subset-2.ensures ∙ c.if-in_subset-2.true, c.code-then-in_subset-2.ensures)

pub returns : goal.returns
unfolding text_character
returns c = rw (sym c.in_subset.ensures ∙ c.if-in_subset.false, sym c.in_subset-2.ensures ∙ c.if-in_subset-2.false)
