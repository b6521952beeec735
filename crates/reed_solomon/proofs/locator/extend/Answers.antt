-- `locator::extend` meets its contract: nothing missed, missed at the same length, and missed with a longer register. Assumes nothing.
use Rattle.general.proofs.Names.{sym, ◌∙◌, arith}
use Rattle.field.proofs.Entries.{the_field}
use Rattle.reed_solomon.proofs.Massey.{register_kept, register_stayed, register_grown}
use Rattle.reed_solomon.proofs.locator.extend.Goals as goal

pub returns-then-d-eq0 : goal.returns-then-d-eq0
returns-then-d-eq0 c = register_kept _ (the_field _ c.requires.field) _ _ _ _ _ _ _ c.requires.register (sym c.discrepancy-d.ensures ∙ c.if-d-eq0.true)

pub returns-then-r-l : goal.returns-then-r-l
returns-then-r-l c =
    register_stayed _ (the_field _ c.requires.field) _ _ _ _ _ _ _ c.requires.register _ _ _ _ c.discrepancy-d.ensures
    (omega arith) (omega arith) c.div-q.ensures c.add_moved.ensures (omega arith)
    (omega arith) c.if-r-l.true

pub grow-requires : goal.grow-requires
grow-requires c = record { field = c.requires.field; f_len = (c.requires.register.size_f, c.requires.register.size_g, omega arith, omega arith) }

pub returns : goal.returns
returns c =
    register_grown _ (the_field _ c.requires.field) _ _ _ _ _ _ _ c.requires.register _ _ _ _ c.discrepancy-d.ensures
    (omega arith) (omega arith) c.div-q.ensures c.grow.ensures.0
    (omega arith)
    (omega arith)
    _ c.grow.ensures.1 (omega arith)
