-- `apply::apply` meets its contract: what is found at the zeros is added where it leaves no syndrome. Assumes nothing.
use Rattle.general.proofs.Names.{refl, sym, ◌∙◌, arith}
use Rattle.field.proofs.Entries.{the_field}
use Rattle.corrector.proofs.Found.{applied_few, applied_left, applied_fixed}
use Rattle.corrector.proofs.apply.apply.Goals as goal

pub roots-requires : goal.roots-requires
roots-requires c = record { field = c.requires.field; l_bound = (omega arith, c.requires.h_len.0, c.requires.h_len.1, omega arith, refl) }

pub returns-then-zeros-l : goal.returns-then-zeros-l
returns-then-zeros-l c =
    applied_few _ (the_field _ c.requires.field) _ _ _ c.requires.first_bound.2 (λ i. omega (arith, c.type_inv.block i)) _ c.requires.syndromes
    _ _ _ c.roots.ensures (omega arith)

pub add-requires : goal.add-requires
add-requires c = omega (arith, c.magnitudes.ensures.size, c.roots.ensures.size, c.requires.first_bound.2)

pub zeros-requires-then-clean : goal.zeros-requires-then-clean
zeros-requires-then-clean c = omega (arith, c.magnitudes.ensures.size, c.roots.ensures.size, c.requires.first_bound.2)

pub returns-then-clean : goal.returns-then-clean
returns-then-clean c =
    applied_fixed _ (the_field _ c.requires.field) _ _ _ c.requires.first_bound.2 (λ i. omega (arith, c.slice_known-1.given i)) _ c.requires.syndromes
    _ _ _ c.roots.ensures _ _ c.magnitudes.ensures c.take_off_all.ensures
    (sym c.if-clean.true ∙ c.clean.ensures) _ (λ i. omega (arith, c.type_inv.block i))
    c.add.ensures _ c.zeros-then-clean.ensures.0

pub returns : goal.returns
returns c =
    applied_left _ (the_field _ c.requires.field) _ _ _ c.requires.first_bound.2 (λ i. omega (arith, c.type_inv.block i)) _ c.requires.syndromes
    _ _ _ c.roots.ensures _ _ c.magnitudes.ensures c.take_off_all.ensures (sym c.if-clean.false ∙ c.clean.ensures)
