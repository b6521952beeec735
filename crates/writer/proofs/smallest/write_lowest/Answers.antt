-- `write_lowest` meets its contract: no version below the candidate holds script and payload. Assumes nothing.
use Rattle.general.proofs.Names.{refl, ap, ◌∙◌, ◌<◌, arith, length}
use Rattle.marks.specs.Smallest.{smallest_of}
use Rattle.writer.proofs.Fronts.{candidate_first, candidate_fits, candidate_later, candidate_next}
use Rattle.writer.proofs.Fronts.{front_zero, front_one, front_other, search_over}
use Rattle.writer.proofs.smallest.write_lowest.Goals as goal

pub loop-version-init : goal.loop-version-init
loop-version-init c = (candidate_first _ _ _ _ c.requires.0 c.requires.2 _ c.lowest_version-version.ensures, refl)

pub write_front-number-requires : goal.write_front-number-requires
write_front-number-requires c = candidate_fits _ _ _ _ c.requires.0 c.requires.2 _ c.loop-version.invariant.0 (omega (arith, c.loop-version-test.true))

pub shape_of-square-then-number-eq0 : goal.shape_of-square-then-number-eq0
shape_of-square-then-number-eq0 c = c.write_front-number.auto.square ∙ ap length c.loop-version.invariant.1

pub returns-then-number-eq0 : goal.returns-then-number-eq0
returns-then-number-eq0 c =
    front_zero _ _ _ _ c.requires.0 c.requires.2 _ c.loop-version.invariant.0 (omega (arith, c.loop-version-test.true)) _ c.requires.1 c.loop-version.square _ _
    c.write_front-number.ensures c.if-number-eq0.true
    ∙ ap (smallest_of c.args.level c.args.mask c.args.script.now c.args.payload.now) c.loop-version.invariant.1

pub shape_of-square-then-number-ne1 : goal.shape_of-square-then-number-ne1
shape_of-square-then-number-ne1 c = c.write_front-number.auto.square ∙ ap length c.loop-version.invariant.1

pub returns-then-number-ne1 : goal.returns-then-number-ne1
returns-then-number-ne1 c =
    rw c.refused.ensures
    (front_other _ _ _ _ c.requires.0 c.requires.2 _ c.loop-version.invariant.0 (omega (arith, c.loop-version-test.true)) _ c.requires.1 c.loop-version.square _ _
    c.write_front-number.ensures c.if-number-eq0.false c.if-number-ne1.true
    ∙ ap (smallest_of c.args.level c.args.mask c.args.script.now c.args.payload.now) c.loop-version.invariant.1)

pub lowest_version-version-requires-in-loop-version : goal.lowest_version-version-requires-in-loop-version
lowest_version-version-requires-in-loop-version c = (c.requires.0, omega arith, omega (arith, c.loop-version-test.true))

pub loop-version-smaller : goal.loop-version-smaller
loop-version-smaller c =
    let h : c.loop-version.version < 85 = omega (arith, c.loop-version-test.true) in
    omega (arith, h, candidate_later _ _ _ _ c.requires.0 c.requires.2 _ c.loop-version.invariant.0 h _ c.lowest_version-version-in-loop-version.ensures)

pub loop-version-preserved : goal.loop-version-preserved
loop-version-preserved c =
    let h : c.loop-version.version < 85 = omega (arith, c.loop-version-test.true) in
    let e = front_one _ _ _ _ c.requires.0 c.requires.2 _ c.loop-version.invariant.0 h _ c.requires.1 c.loop-version.square _ _ c.write_front-number.ensures
    c.if-number-ne1.false in
    (candidate_next _ _ _ _ c.requires.0 c.requires.2 _ c.loop-version.invariant.0 h _ e.0 c.lowest_version-version-in-loop-version.ensures, e.1 ∙ c.loop-version.invariant.1)

pub shape_of-square : goal.shape_of-square
shape_of-square c = ap length c.loop-version.invariant.1

pub returns : goal.returns
returns c =
    rw c.refused-2.ensures
    (search_over _ _ _ _ c.requires.0 c.requires.2 _ _ c.loop-version.invariant.0 c.loop-version-test.false c.requires.1 c.loop-version.square
    ∙ ap (smallest_of c.args.level c.args.mask c.args.script.now c.args.payload.now) c.loop-version.invariant.1)
