-- `correct_with` meets its contract: no table, too many erased, and what is left of the block, with none erased and with some. Assumes nothing.
use Rattle.general.proofs.Names.{sym, ◌∙◌, arith}
use Rattle.reed_solomon.proofs.Fit.{fit}
use Rattle.corrector.specs.Correct.{outcome}
use Rattle.corrector.proofs.Repairs.{whole_left}
use Rattle.erasure_corrector.proofs.Repairs.{none_erased, many_refused, fit_settled}
use Rattle.erasure_corrector.proofs.correct_with.Goals as goal

pub returns-then-is_untabled : goal.returns-then-is_untabled
returns-then-is_untabled c = rw c.requires.1 at c.correct_over.ensures

pub erased-f-requires : goal.erased-f-requires
erased-f-requires c = let fits = c.is_untabled.ensures c.if-is_untabled.false in omega arith

pub returns-then-parity-f : goal.returns-then-parity-f
unfolding outcome
returns-then-parity-f c =
    let fits = c.is_untabled.ensures c.if-is_untabled.false in
    many_refused _ _ _ _ _ (fit _ _ (λ e. omega (arith, fits.0.0)) fits.1 fits.2) (omega (arith, c.erased-f.ensures))

pub correct_left-requires : goal.correct_left-requires
correct_left-requires c = let fits = c.is_untabled.ensures c.if-is_untabled.false in
    record { tabled = fits; remains = whole_left (c.remainder-left.ensures _ c.requires.2) fits.0 (omega arith) }

pub returns-then-f-eq0 : goal.returns-then-f-eq0
returns-then-f-eq0 c =
    c.correct_left.ensures
    ∙ none_erased _ _ _ _ _ (sym c.erased-f.ensures ∙ c.if-f-eq0.true)

pub correct_left-requires-2 : goal.correct_left-requires-2
correct_left-requires-2 c = let fits = c.is_untabled.ensures c.if-is_untabled.false in
    record {
      field = (c.requires.0, c.requires.1, c.requires.2, fits.0);
      has_erased = (
        record {
          parity_le = omega (arith, fits.0.1);
          small = fits.2;
          size = c.requires.3;
          some = omega (arith, c.if-f-eq0.false);
          fit = omega (arith, c.if-parity-f.false);
          are = c.erased-f.ensures;
        },
        whole_left (c.remainder-left.ensures _ c.requires.2) fits.0 (omega arith),
      );
    }

pub returns : goal.returns
returns c =
    let fits = c.is_untabled.ensures c.if-is_untabled.false in
    c.correct_left-2.ensures
    ∙ fit_settled _ _ _ _ _ (fit _ _ (λ e. omega (arith, fits.0.0)) fits.1 fits.2)
    (omega (arith, c.erased-f.ensures, c.if-parity-f.false))
