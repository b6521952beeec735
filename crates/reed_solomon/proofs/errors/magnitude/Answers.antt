-- `errors::magnitude` meets its contract. Assumes nothing.
use Rattle.general.proofs.Names.{sym, ◌∙◌, arith}
use Rattle.field.proofs.Entries.{the_field}
use Rattle.reed_solomon.proofs.Magnitudes.{small_product, magnitude_none, magnitude_some}
use Rattle.reed_solomon.proofs.errors.magnitude.Goals as goal

pub returns-then-q-eq0 : goal.returns-then-q-eq0
returns-then-q-eq0 c = magnitude_none _ (the_field _ c.requires.field) _ _ _ _ _ (sym c.divided-q.ensures.1 ∙ c.if-q-eq0.true)

pub overflow_mul-d : goal.overflow_mul-d
overflow_mul-d c = omega (arith, small_product c.args.d c.args.first c.requires.l_in_bounds.2 c.requires.l_in_bounds.3)

pub returns : goal.returns
returns c =
    magnitude_some _ (the_field _ c.requires.field) _ _ _ _ _ _ _ _ _ c.divided-q.ensures.0 c.divided-q.ensures.1 (omega arith) (omega arith)
    c.div-z.ensures c.raised.ensures
