-- `data_length` meets its contract. Assumes nothing.
use Rattle.blocks.proofs.Rule.{data_shapes}
use Rattle.blocks.proofs.data_length.Goals as goal

pub returns : goal.returns
returns c = data_shapes _ _ _ _ c.batch_of-a.ensures.is
    c.batch_of-b.ensures.is c.batch_of-c.ensures.is
