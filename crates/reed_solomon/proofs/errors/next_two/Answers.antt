-- `errors::next_two` meets its contract. Assumes nothing.
use Rattle.field.proofs.Entries.{the_field}
use Rattle.reed_solomon.proofs.Magnitudes.{two_are}
use Rattle.reed_solomon.proofs.errors.next_two.Goals as goal

pub returns : goal.returns
returns c =
    two_are _ (the_field _ c.requires.field) _ _ _ _ _ _ _ _ _ _ _ _ _ _ _ _
    c.reduced-n.ensures.1
    c.raised.ensures
    c.raised-2.ensures c.raised-3.ensures
    c.raised-4.ensures c.raised-5.ensures c.mul.ensures c.mul-2.ensures
