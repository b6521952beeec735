-- `repair` meets its contract: it refuses where there is no codeword in reach, and else sets the block to it. Assumes nothing.
use Rattle.general.proofs.Names.{refl, sym, arith}
use Rattle.field.proofs.Entries.{the_field}
use Rattle.corrector.specs.Correct.{outcome}
use Rattle.reed_solomon.proofs.Massey.{zeros}
use Rattle.corrector.proofs.Repairs.{long_settled, left_settled, repaired_settled}
use Rattle.corrector.proofs.repair.Goals as goal

pub locator-l-requires : goal.locator-l-requires
locator-l-requires c = record { field = c.requires.field; n_bound = omega arith; s_len = (c.requires.syndromes.size, c.requires.syndromes.bytes); f_len = (refl, zeros 256) }

pub returns-then-parity-l : goal.returns-then-parity-l
unfolding outcome
returns-then-parity-l c =
    long_settled _ (the_field _ c.requires.field) _ _ _ c.requires.first_bound.2 (λ i. omega (arith, c.type_inv.block i))
    _ c.requires.syndromes _ _ c.locator-l.ensures c.if-parity-l.true

pub apply-fix-requires : goal.apply-fix-requires
apply-fix-requires c = let f = c.locator-l.ensures in
    record { field = c.requires.field; first_bound = c.requires.first_bound; h_len = (f.size, f.bytes, f.within); syndromes = c.requires.syndromes }

pub returns-then-fix : goal.returns-then-fix
unfolding outcome
returns-then-fix c =
    repaired_settled _ (the_field _ c.requires.field) _ _ _ c.requires.first_bound.2 (λ i. omega (arith, c.slice_known-1.given i))
    _ c.requires.syndromes _ _ c.locator-l.ensures _ _ _ c.apply-fix.ensures (sym c.if-fix.true)
    (omega (arith, c.if-parity-l.false))

pub returns : goal.returns
unfolding outcome
returns c =
    left_settled _ (the_field _ c.requires.field) _ _ _ c.requires.first_bound.2 (λ i. omega (arith, c.slice_known-1.given i))
    _ c.requires.syndromes _ _ c.locator-l.ensures _ _ _ c.apply-fix.ensures (sym c.if-fix.false)
