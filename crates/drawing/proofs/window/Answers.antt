-- `window` meets its contract. Assumes nothing.
use Rattle.drawing.proofs.Puts.{window_two}
use Rattle.drawing.proofs.window.Goals as goal

pub returns : goal.returns
returns c = window_two _ _ _ _ c.requires
    (c.as_usize.ensures.1, c.as_usize-2.ensures.1) c.as_usize.ensures.0 c.as_usize-2.ensures.0
