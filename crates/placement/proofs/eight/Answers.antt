-- `eight` meets its contract. Assumes nothing.
use Rattle.placement.proofs.Eights.{eight_is}
use Rattle.placement.proofs.eight.Goals as goal

pub returns : goal.returns
returns c = eight_is c.args.s.now
    _ _ _ c.four-low.ensures.0 c.four.ensures.0
