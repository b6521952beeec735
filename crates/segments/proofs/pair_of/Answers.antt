-- `pair_of` meets its contract. Assumes nothing.
use Rattle.general.proofs.Names.{refl, lt-ltb, le-ltb, arith}
use Rattle.segments.specs.Segments.{high_of, low_of, region_size}
use Rattle.segments.proofs.pair_of.Goals as goal

pub returns-then-w-lt3760 : goal.returns-then-w-lt3760
unfolding high_of low_of region_size
returns-then-w-lt3760 c = simp (c.if-one.true, lt-ltb _ _ c.if-w-lt3760.true) (omega arith, omega arith, refl, refl)

pub returns-then-w-lt4042 : goal.returns-then-w-lt4042
unfolding high_of low_of region_size
returns-then-w-lt4042 c = simp (c.if-one.true, le-ltb _ _ c.if-w-lt3760.false, lt-ltb _ _ c.if-w-lt4042.true) (omega arith, omega arith, refl, refl)

pub returns-then-one : goal.returns-then-one
unfolding high_of low_of region_size
returns-then-one c = let one = c.if-one.true in
    let k = simp one at c.requires in
    simp (one, le-ltb _ _ c.if-w-lt3760.false, le-ltb _ _ c.if-w-lt4042.false) (omega arith, omega arith, refl, refl)

pub returns : goal.returns
unfolding high_of low_of region_size
returns c = let k = simp c.if-one.false at c.requires in simp c.if-one.false (omega arith, omega arith, refl, refl)
