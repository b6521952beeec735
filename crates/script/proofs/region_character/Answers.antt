-- `region_character` meets its contract. Assumes nothing.
use Rattle.general.proofs.Names.{sym, ◌∙◌}
use Rattle.script.specs.Characters.{region_character}
use Rattle.script.proofs.region_character.Goals as goal

pub returns-then-in_region : goal.returns-then-in_region
unfolding region_character
returns-then-in_region c = rw (sym c.in_region.ensures ∙ c.if-in_region.true, c.pair_code.ensures)

pub returns-then-in_region-2 : goal.returns-then-in_region-2
unfolding region_character
returns-then-in_region-2 c = rw (sym c.in_region.ensures ∙ c.if-in_region.false, sym c.in_region-2.ensures ∙ c.if-in_region-2.true, c.pair_code-then-in_region-2.ensures)

pub returns : goal.returns
unfolding region_character
returns c = rw (sym c.in_region.ensures ∙ c.if-in_region.false, sym c.in_region-2.ensures ∙ c.if-in_region-2.false)
