-- `times_x` meets its contract. Assumes nothing.
use Rattle.information.proofs.Products.{eight}
use Rattle.information.specs.Information.{times_x}
use Rattle.general.proofs.Names.{lt-ltb, le-ltb}
use Rattle.information.proofs.times_x.Goals as goal

pub returns-then-d-lt16 : goal.returns-then-d-lt16
unfolding times_x
returns-then-d-lt16 c = (simp (lt-ltb _ _ c.if-d-lt16.true), c.if-d-lt16.true)

pub returns : goal.returns
unfolding times_x
returns c = (simp (le-ltb _ _ c.if-d-lt16.false), eight c.args.a c.if-d-lt16.false c.requires)
