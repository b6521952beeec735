-- `errors::carry` meets its contract: each product is that of as many steps. Assumes nothing.
use Rattle.field.proofs.Entries.{the_field}
use Rattle.reed_solomon.specs.Places.{carried}
use Rattle.reed_solomon.proofs.Terms.{by_reduced}
use Rattle.reed_solomon.proofs.errors.carry.Goals as goal

pub returns : goal.returns
unfolding carried
returns c = let P = the_field _ c.requires.field in (
  c.raised-a.ensures,
  by_reduced _ P _ 1 _ _ _ c.doubled.ensures.1 c.raised-b.ensures,
  by_reduced _ P _ 2 _ _ _ c.folded.ensures.1 c.raised-c.ensures,
  by_reduced _ P _ 3 _ _ _ c.folded-2.ensures.1 c.raised-d.ensures,
)
