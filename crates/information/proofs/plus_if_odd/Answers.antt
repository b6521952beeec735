-- `plus_if_odd` meets its contract. Assumes nothing.
use Rattle.general.proofs.Names.{xor_lt, eq-eqb, ne_eqb}
use Rattle.information.proofs.plus_if_odd.Goals as goal

pub returns-then-b-eq1 : goal.returns-then-b-eq1
returns-then-b-eq1 c = (simp (eq-eqb _ _ c.if-b-eq1.true), xor_lt 4 c.args.p c.args.a c.requires.0 c.requires.1)

pub returns : goal.returns
returns c = (simp (ne_eqb _ _ c.if-b-eq1.false), c.requires.0)
