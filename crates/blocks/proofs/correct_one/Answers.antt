-- `correct_one` meets its contract. Assumes nothing.
use Rattle.general.proofs.Names.{refl}
use Rattle.blocks.proofs.Corrects.{one_unflagged}
use Rattle.blocks.proofs.correct_one.Goals as goal

pub returns : goal.returns
returns c =
    one_unflagged c.args.b.info c.args.b.parity c.args.from _ c.args.stream.now _ _ _ refl
    c.answer.ensures c.correct_short.ensures
