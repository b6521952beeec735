-- `store` meets its contract. Assumes nothing.
use Rattle.general.proofs.Names.{refl, arith}
use Rattle.placement.proofs.store.Goals as goal

pub returns-then-out-n : goal.returns-then-out-n
returns-then-out-n c = record { room = λ h. absurd (omega arith); full = λ h. (refl, refl) }

pub returns : goal.returns
returns c = record { room = λ h. (refl, refl); full = λ h. absurd (omega arith) }
