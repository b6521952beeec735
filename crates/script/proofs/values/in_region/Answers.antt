-- `in_region` meets its contract. Assumes nothing.
use Rattle.general.proofs.Names.{lt-ltb, le-ltb, eq-eqb, ne_eqb}
use Rattle.script.specs.Writer.{in_region}
use Rattle.script.proofs.values.in_region.Goals as goal

pub returns-then-pair-a : goal.returns-then-pair-a
unfolding in_region
returns-then-pair-a c =
    let k = c.pair_of-pair.ensures in
    rw (
      ← c.pair_code-c.ensures,
      ← c.region_size.ensures,
      ← k.2,
      ← k.3,
      lt-ltb _ _ c.if-c-region_size.true,
      eq-eqb _ _ c.if-pair-a.true,
    )

pub returns-else-pair-a : goal.returns-else-pair-a
unfolding in_region
returns-else-pair-a c =
    rw (
      ← c.pair_code-c.ensures,
      ← c.region_size.ensures,
      ← c.pair_of-pair.ensures.2,
      lt-ltb _ _ c.if-c-region_size.true,
      ne_eqb _ _ c.if-pair-a.false,
    )

pub returns-else-c-region_size : goal.returns-else-c-region_size
unfolding in_region
returns-else-c-region_size c = rw (← c.pair_code-c.ensures, ← c.region_size.ensures, le-ltb _ _ c.if-c-region_size.false)
