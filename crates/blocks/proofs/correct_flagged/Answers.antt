-- `correct_flagged` meets its contract. Assumes nothing.
use Rattle.general.proofs.Names.{refl}
use Rattle.blocks.proofs.Corrects.{one_corrects}
use Rattle.blocks.proofs.correct_flagged.Goals as goal

pub returns : goal.returns
returns c =
    one_corrects c.args.flags.now c.args.b.info c.args.b.parity c.args.from _ c.args.stream.now _ _ _ refl
    c.answer.ensures c.correct_with.ensures
