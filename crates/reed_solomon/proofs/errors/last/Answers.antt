-- `errors::last` meets its contract. Assumes nothing.
use Rattle.reed_solomon.proofs.Magnitudes.{last_is}
use Rattle.reed_solomon.proofs.errors.last.Goals as goal

pub returns : goal.returns
returns c = last_is _ _ _ _ _ c.args.q.num _ _ _ _ c.raised.ensures
    c.raised-2.ensures c.mul.ensures
