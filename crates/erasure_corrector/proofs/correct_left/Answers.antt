-- `correct_left` meets its contract: nothing is left, one erased place alone, and all else. Assumes nothing.
use Rattle.general.proofs.Names.{refl, sym, arith}
use Rattle.reed_solomon.proofs.Massey.{zeros}
use Rattle.corrector.specs.Correct.{outcome}
use Rattle.erasure_corrector.proofs.Repairs.{none_settled}
use Rattle.erasure_corrector.proofs.One.{one_settled, left_erased, left_remains, left_settled}
use Rattle.erasure_corrector.proofs.correct_left.Goals as goal

pub returns-then-is_none : goal.returns-then-is_none
unfolding outcome
returns-then-is_none c = none_settled (λ i. omega (arith, c.type_inv.block i)) c.requires.has_erased.0 c.requires.has_erased.1 (c.is_none.ensures c.if-is_none.true)

pub returns-then-fix : goal.returns-then-fix
unfolding outcome
returns-then-fix c =
    one_settled (λ i. omega (arith, c.slice_known-1.given i)) c.requires.has_erased.0 (λ i. omega (arith, c.type_inv.block i)) c.try_one-fix.ensures
    (sym c.if-fix.true)

pub syndromes-requires : goal.syndromes-requires
syndromes-requires c = record { field = c.requires.field.0; first_bound = (omega arith, omega (arith, c.requires.has_erased.0.parity_le)); s_len = (refl, zeros 256) }

pub repair-requires : goal.repair-requires
repair-requires c = let O = c.try_one-fix.ensures in
    let left = sym c.if-fix.false in record {
      field = (c.requires.field.0, omega arith);
      has_erased = (
        left_erased O left c.requires.field.1 c.requires.has_erased.0,
        c.syndromes.ensures _ (left_remains O left c.requires.field.1 c.requires.has_erased.1),
      );
    }

pub returns : goal.returns
returns c = left_settled c.try_one-fix.ensures (sym c.if-fix.false) c.requires.field.1 _ c.repair.ensures
