-- `correct_left` meets its contract: a block of which nothing is left, and one of which something is. Assumes nothing.
use Rattle.general.proofs.Names.{refl, ap, ◌∙◌, ℕ, arith}
use Rattle.reed_solomon.specs.Block.{nearest}
use Rattle.reed_solomon.proofs.Fit.{fit}
use Rattle.reed_solomon.proofs.Massey.{zeros}
use Rattle.corrector.specs.Correct.{outcome, settled}
use Rattle.corrector.proofs.Repairs.{fit_settled, none_settled, left_as}
use Rattle.corrector.proofs.correct_left.Goals as goal

pub returns-then-is_none : goal.returns-then-is_none
unfolding outcome
returns-then-is_none c =
    let fits = c.requires.tabled in
    none_settled _ _ _ fits.2 (λ i. omega (arith, c.type_inv.block i)) c.requires.remains (c.is_none.ensures c.if-is_none.true)
    ∙ fit_settled _ _ _ _ (fit _ _ (λ e. omega arith) fits.1 fits.2)

pub syndromes-requires : goal.syndromes-requires
syndromes-requires c = record { field = c.han_xin-field.ensures.0; first_bound = (omega arith, omega arith); s_len = (refl, zeros 256) }

pub repair-requires : goal.repair-requires
repair-requires c = let fits = c.requires.tabled in
    let field = c.han_xin-field.ensures in record {
      field = field.0;
      first_bound = (omega arith, omega arith, fits.2);
      syndromes = c.syndromes.ensures c.args.block.now
          (left_as c.requires.remains field.1 (omega arith));
    }

pub returns : goal.returns
returns c =
    let fits = c.requires.tabled in
    c.repair.ensures ∙ ap (λ (p : ℕ). settled c.args.block.now
    (nearest p 1 c.args.parity c.args.block.now))
    c.han_xin-field.ensures.1
    ∙ fit_settled _ _ _ _ (fit _ _ (λ e. omega arith) fits.1 fits.2)
