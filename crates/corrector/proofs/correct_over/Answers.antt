-- `correct_over` meets its contract: the refusals 5 in their order, a block with no error, and one with errors. Assumes nothing.
use Rattle.general.proofs.Names.{refl, sym, ◌∙◌, arith}
use Rattle.field.proofs.Entries.{the_field}
use Rattle.corrector.specs.Correct.{outcome}
use Rattle.corrector.proofs.Repairs.{unfit_refused, fit_settled, clean_settled}
use Rattle.reed_solomon.proofs.Fit.{unfit_parity, unfit_length, unfit_long, fit}
use Rattle.reed_solomon.proofs.Massey.{zeros}
use Rattle.corrector.proofs.correct_over.Goals as goal

pub returns-then-parity-eq0 : goal.returns-then-parity-eq0
unfolding outcome
returns-then-parity-eq0 c = unfit_refused _ _ _ _ (unfit_parity _ _ c.if-parity-eq0.true)

pub returns-then-n-parity : goal.returns-then-n-parity
unfolding outcome
returns-then-n-parity c = unfit_refused _ _ _ _ (unfit_length _ _ c.if-n-parity.true)

pub returns-then-n-gt255 : goal.returns-then-n-gt255
unfolding outcome
returns-then-n-gt255 c = unfit_refused _ _ _ _ (unfit_long _ _ c.if-n-gt255.true)

pub syndromes-requires : goal.syndromes-requires
syndromes-requires c = record { field = c.requires.field; parity_bound = omega arith; s_len = (refl, zeros 256) }

pub returns-then-clean : goal.returns-then-clean
unfolding outcome
returns-then-clean c =
    clean_settled _ (the_field _ c.requires.field) _ _ _ (omega arith) (λ i. omega (arith, c.slice_known-1.given i)) _ c.syndromes.ensures
    (sym c.if-clean.true ∙ c.clean.ensures)
    ∙ fit_settled _ _ _ _ (fit _ _ c.if-parity-eq0.false (omega arith) (omega arith))

pub repair-requires : goal.repair-requires
repair-requires c = record { field = c.requires.field; first_bound = (c.requires.first_bound, omega arith, omega arith); syndromes = c.syndromes.ensures }

pub returns : goal.returns
returns c = c.repair.ensures ∙ fit_settled _ _ _ _ (fit _ _ c.if-parity-eq0.false (omega arith) (omega arith))
