-- `region_size` meets its contract. Assumes nothing.
use Rattle.segments.specs.Segments.{region_size}
use Rattle.segments.proofs.region_size.Goals as goal

pub returns-then-one : goal.returns-then-one
unfolding region_size
returns-then-one c = simp c.if-one.true

pub returns-else-one : goal.returns-else-one
unfolding region_size
returns-else-one c = simp c.if-one.false
