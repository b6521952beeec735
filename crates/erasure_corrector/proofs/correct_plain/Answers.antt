-- `correct_plain` meets its contract: the table is that of 163 hex. Assumes nothing.
use Rattle.general.proofs.Names.{arith}
use Rattle.erasure_corrector.proofs.correct_plain.Goals as goal

pub correct_over-requires : goal.correct_over-requires
correct_over-requires c = record { field = c.han_xin-field.ensures.0; first_bound = (omega arith, c.requires) }

pub returns : goal.returns
returns c = rw c.han_xin-field.ensures.1 at c.correct_over.ensures
