-- `encode_over` meets its contract: the refusals 5 in their order, and the parity of a block that is fit. Assumes nothing.
use Rattle.parity.specs.Encode.{encoding}
use Rattle.parity.proofs.Remainder.{generator_end, generator_monic}
use Rattle.parity.proofs.Fit.{unfit_refused, fit_written}
use Rattle.reed_solomon.proofs.Fit.{unfit_parity, unfit_length, unfit_long, fit}
use Rattle.general.proofs.Names.{arith}
use Rattle.parity.proofs.encode_over.Goals as goal

pub returns-then-parity-eq0 : goal.returns-then-parity-eq0
unfolding encoding
returns-then-parity-eq0 c = unfit_refused _ _ _ _ (unfit_parity _ _ c.if-parity-eq0.true)

pub returns-then-n-parity : goal.returns-then-n-parity
unfolding encoding
returns-then-n-parity c = unfit_refused _ _ _ _ (unfit_length _ _ c.if-n-parity.true)

pub returns-then-n-gt255 : goal.returns-then-n-gt255
unfolding encoding
returns-then-n-gt255 c = unfit_refused _ _ _ _ (unfit_long _ _ c.if-n-gt255.true)

pub write_parity-requires : goal.write_parity-requires
write_parity-requires c = record { field = c.requires.field; k_in_bounds = (omega arith, omega arith, omega arith); monic = generator_monic _ _ _ _ _ c.generator-g.ensures.1 (omega arith) (omega arith) }

pub returns : goal.returns
unfolding encoding
returns c =
    fit_written _ _ _ _
    (fit _ _ c.if-parity-eq0.false (omega arith) (omega arith))
    (omega arith) _
    (c.write_parity.ensures _ (generator_end _ _ _ _ _ c.generator-g.ensures.1 (omega arith) (omega arith)))
