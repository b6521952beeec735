-- `answer` meets its contract: one case after the other. Assumes nothing.
use Rattle.general.proofs.Names.{sym, ap}
use Rattle.blocks.specs.Inner.{answer_of}
use Rattle.blocks.proofs.answer.Goals as goal

pub returns-in-Corrected : goal.returns-in-Corrected
unfolding answer_of
returns-in-Corrected c = sym (ap answer_of c.in-Corrected.is)

pub returns-in-Unfit : goal.returns-in-Unfit
unfolding answer_of
returns-in-Unfit c = sym (ap answer_of c.in-Unfit.is)

pub returns-in-TooManyErased : goal.returns-in-TooManyErased
unfolding answer_of
returns-in-TooManyErased c = sym (ap answer_of c.in-TooManyErased.is)

pub returns-in-OutOfReach : goal.returns-in-OutOfReach
unfolding answer_of
returns-in-OutOfReach c = sym (ap answer_of c.in-OutOfReach.is)
