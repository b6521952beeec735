-- `differ` meets its contract. Assumes nothing.
use Rattle.general.proofs.Names.{sym, eq-eqb, ne_eqb}
use Rattle.erasure_corrector.proofs.differ.Goals as goal

pub returns-then-a-b : goal.returns-then-a-b
returns-then-a-b c = sym (simp (eq-eqb c.args.a c.args.b c.if-a-b.true))

pub returns-else-a-b : goal.returns-else-a-b
returns-else-a-b c = sym (simp (ne_eqb c.args.a c.args.b c.if-a-b.false))
