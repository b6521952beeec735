-- `numbers` meets its contract: one case after the other. Assumes nothing.
use Rattle.general.proofs.Names.{sym, ap}
use Rattle.corrector.specs.declared.Correction.{Correction}
use Rattle.corrector.specs.Correct.{outcome, refused_block}
use Rattle.comparison.proofs.correcting.numbers.Goals as goal

pub returns-in-Corrected : goal.returns-in-Corrected
unfolding outcome refused_block
returns-in-Corrected c = record { are = λ b. sym (ap (λ (x : Correction). outcome x b) c.in-Corrected.is) }

pub returns-in-Unfit : goal.returns-in-Unfit
unfolding outcome refused_block
returns-in-Unfit c = record { are = λ b. sym (ap (λ (x : Correction). outcome x b) c.in-Unfit.is) }

pub returns-in-TooManyErased : goal.returns-in-TooManyErased
unfolding outcome refused_block
returns-in-TooManyErased c = record { are = λ b. sym (ap (λ (x : Correction). outcome x b) c.in-TooManyErased.is) }

pub returns-in-OutOfReach : goal.returns-in-OutOfReach
unfolding outcome refused_block
returns-in-OutOfReach c = record { are = λ b. sym (ap (λ (x : Correction). outcome x b) c.in-OutOfReach.is) }
