-- `repair` meets its contract: a codeword is its own; else the locator refuses the block, or is applied. Assumes nothing.
use Rattle.general.proofs.Names.{refl, sym, ◌∙◌, arith}
use Rattle.field.specs.Table.{poly_of}
use Rattle.field.proofs.Entries.{the_field}
use Rattle.reed_solomon.proofs.Massey.{zeros}
use Rattle.reed_solomon.proofs.Erased.{erasures_zeros}
use Rattle.reed_solomon.specs.Erased.{admitted}
use Rattle.corrector.specs.Correct.{outcome, settled}
use Rattle.erasure_corrector.proofs.Repairs.{Settles, clean_settled, long_settled, applied_settled}
use Rattle.erasure_corrector.proofs.repair.Goals as goal
use Rattle.erasure_corrector.proofs.repair.Goals.{After-apply-fix}

-- what the locator that was applied makes of the block
applied : (c : After-apply-fix) → let block = c.args.block.now in
    Settles (settled block (admitted (poly_of c.args.field.now) c.args.first c.args.parity c.args.flags.now block))
    c.apply-fix.result.done c.apply-fix.result.count c.apply-fix.new.block
applied c = applied_settled (the_field _ c.requires.field.0) _ (λ i. omega (arith, c.slice_known-1.given i)) c.requires.has_erased.0 c.requires.has_erased.1
    (sym c.if-clean.false ∙ c.clean.ensures) c.locate-l.ensures c.add_roots-top.ensures c.apply-fix.ensures
    (omega (arith, c.if-parity-l.false))

pub returns-then-clean : goal.returns-then-clean
unfolding outcome
returns-then-clean c =
    clean_settled (the_field _ c.requires.field.0) _ (λ i. omega (arith, c.type_inv.block i)) c.requires.has_erased.0 c.requires.has_erased.1
    (sym c.if-clean.true ∙ c.clean.ensures)

pub locate-l-requires : goal.locate-l-requires
locate-l-requires c = let B = c.requires.has_erased.0 in
    record { field = c.requires.field.0; parity_bound = (B.parity_le, omega (arith, B.size, B.small), B.fit, B.are); s_len = (c.requires.has_erased.1.size, refl, zeros 256) }

pub returns-then-parity-l : goal.returns-then-parity-l
unfolding outcome
returns-then-parity-l c =
    long_settled (the_field _ c.requires.field.0) _ (λ i. omega (arith, c.type_inv.block i)) c.requires.has_erased.0 c.requires.has_erased.1
    (sym c.if-clean.false ∙ c.clean.ensures) c.locate-l.ensures c.if-parity-l.true

pub add_roots-top-requires : goal.add_roots-top-requires
add_roots-top-requires c = let B = c.requires.has_erased.0 in
    let short = c.locate-l.ensures.shortest in record { field = c.requires.field.0; f_len = (short.size, short.unit, short.tail); flags_len_bound = (omega (arith, B.size, B.small), omega (arith, c.if-parity-l.false, B.are, B.parity_le)) }

pub apply-fix-requires : goal.apply-fix-requires
apply-fix-requires c = let B = c.requires.has_erased.0 in
    let r = c.add_roots-top.ensures in record { field = c.requires.field.0; first_bound = (c.requires.field.1, B.parity_le, B.small); h_len = (r.size, r.bytes, omega (arith, r.count, erasures_zeros c.args.flags.now, B.are, c.if-parity-l.false)); syndromes = c.requires.has_erased.1 }

pub returns-then-fix : goal.returns-then-fix
unfolding outcome
returns-then-fix c = (applied (goal.at.returns-then-fix c).After-apply-fix).repaired (sym c.if-fix.true)

pub returns : goal.returns
unfolding outcome
returns c = (applied (goal.at.returns c).After-apply-fix).lost (sym c.if-fix.false)
