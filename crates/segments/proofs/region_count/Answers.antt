-- `region_count` meets its contract. Assumes nothing.
use Rattle.general.proofs.Names.{eq-eqb, ne_eqb}
use Rattle.segments.proofs.region_count.Goals as goal

pub returns-then-r-eq0 : goal.returns-then-r-eq0
returns-then-r-eq0 c = rw (eq-eqb c.args.r 0 c.if-r-eq0.true)

pub returns-then-r-eq1 : goal.returns-then-r-eq1
returns-then-r-eq1 c = let r = c.args.r in
    rw (ne_eqb r 0 c.if-r-eq0.false, eq-eqb r 1 c.if-r-eq1.true)

pub returns : goal.returns
returns c = let r = c.args.r in
    rw (ne_eqb r 0 c.if-r-eq0.false, ne_eqb r 1 c.if-r-eq1.false)
