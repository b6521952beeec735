-- `correct_over` meets its contract: the refusals 5 first, then a block with none erased, the refusal 15, and a block with some. Assumes nothing.
use Rattle.general.proofs.Names.{refl, sym, ◌∙◌, arith}
use Rattle.reed_solomon.proofs.Fit.{unfit_parity, unfit_length, unfit_long, fit}
use Rattle.reed_solomon.proofs.Massey.{zeros}
use Rattle.corrector.specs.Correct.{outcome}
use Rattle.erasure_corrector.proofs.Repairs.{none_erased, unfit_refused, many_refused, fit_settled}
use Rattle.erasure_corrector.proofs.correct_over.Goals as goal

pub returns-then-parity-eq0 : goal.returns-then-parity-eq0
unfolding outcome
returns-then-parity-eq0 c = unfit_refused _ _ _ _ _ (unfit_parity _ _ c.if-parity-eq0.true)

pub returns-then-n-parity : goal.returns-then-n-parity
unfolding outcome
returns-then-n-parity c = unfit_refused _ _ _ _ _ (unfit_length _ _ c.if-n-parity.true)

pub returns-then-n-gt255 : goal.returns-then-n-gt255
unfolding outcome
returns-then-n-gt255 c = unfit_refused _ _ _ _ _ (unfit_long _ _ c.if-n-gt255.true)

pub returns-then-f-eq0 : goal.returns-then-f-eq0
returns-then-f-eq0 c = c.correct_over.ensures
    ∙ none_erased _ _ _ _ _ (sym c.erased-f.ensures ∙ c.if-f-eq0.true)

pub returns-then-parity-f : goal.returns-then-parity-f
unfolding outcome
returns-then-parity-f c = many_refused _ _ _ _ _ (fit _ _ c.if-parity-eq0.false (omega arith) (omega arith)) (omega (arith, c.erased-f.ensures))

pub syndromes-requires : goal.syndromes-requires
syndromes-requires c = record { field = c.requires.field; parity_bound = omega arith; s_len = (refl, zeros 256) }

pub repair-requires : goal.repair-requires
repair-requires c = record {
  field = (c.requires.field, c.requires.first_bound.0);
  has_erased = (
    record {
      parity_le = omega arith;
      small = omega arith;
      size = c.requires.first_bound.1;
      some = omega (arith, c.if-f-eq0.false);
      fit = omega arith;
      are = c.erased-f.ensures;
    },
    c.syndromes.ensures,
  );
}

pub returns : goal.returns
returns c =
    c.repair.ensures
    ∙ fit_settled _ _ _ _ _ (fit _ _ c.if-parity-eq0.false (omega arith) (omega arith)) (omega (arith, c.erased-f.ensures))
