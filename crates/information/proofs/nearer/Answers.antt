-- `nearer` meets its contract. Assumes nothing.
use Rattle.general.proofs.Names.{lt-ltb, le-ltb}
use Rattle.information.proofs.nearer.Goals as goal

pub returns-then-distance-best : goal.returns-then-distance-best
returns-then-distance-best c = (simp (lt-ltb _ _ c.if-distance-best.true), simp (lt-ltb _ _ c.if-distance-best.true))

pub returns : goal.returns
returns c = (simp (le-ltb _ _ c.if-distance-best.false), simp (le-ltb _ _ c.if-distance-best.false))
