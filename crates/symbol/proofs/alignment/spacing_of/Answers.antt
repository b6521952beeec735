-- `spacing_of` meets its contract.
use Rattle.general.proofs.Names.{refl, arith}
use Rattle.symbol.specs.Layout.{m_of, ks, ms}
use Rattle.symbol.proofs.Lines.{Table, tabled, spaced}
use Rattle.symbol.proofs.alignment.spacing_of.Goals as goal
use Rattle.symbol.proofs.alignment.spacing_of.Goals.{After-side-side}

table : (c : After-side-side) → Table c.args.version
table c = tabled _ c.requires.0 c.requires.1

pub overflow_cast-k : goal.overflow_cast-k
unfolding ks m_of ms
overflow_cast-k c = omega (arith, (table (goal.at.overflow_cast-k c).After-side-side).k_le)

pub overflow_cast-m : goal.overflow_cast-m
unfolding ks m_of ms
overflow_cast-m c = omega (arith, (table (goal.at.overflow_cast-m c).After-side-side).m_le)

pub overflow_mul-result : goal.overflow_mul-result
unfolding ks m_of ms
overflow_mul-result c = omega (arith, (table (goal.at.overflow_mul-result c).After-side-side).last)

pub overflow_sub-result : goal.overflow_sub-result
unfolding ks m_of ms
overflow_sub-result c = omega (arith, (table (goal.at.overflow_sub-result c).After-side-side).last)

pub returns : goal.returns
unfolding ks m_of ms
returns c = (spaced _ c.requires.0 c.requires.1 c.side-side.ensures refl refl refl, refl)
