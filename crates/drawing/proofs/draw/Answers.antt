-- `draw` meets its contract. Assumes nothing.
use Rattle.block_table.proofs.Rows.{copied_more}
use Rattle.drawing.specs.Puts.{pattern_of}
use Rattle.general.proofs.Names.{get_or, length-set, refl, ◌∙◌, ℕ, arith}
use Rattle.drawing.proofs.draw.Goals as goal

pub loop-i-init : goal.loop-i-init
loop-i-init c = (omega arith, refl, λ k h. absurd (omega arith))

pub bounds-kinds-i : goal.bounds-kinds-i
bounds-kinds-i c = omega arith

pub bounds-square-i : goal.bounds-square-i
bounds-square-i c = omega arith

pub loop-i-smaller : goal.loop-i-smaller
loop-i-smaller c = omega arith

pub loop-i-preserved : goal.loop-i-preserved
loop-i-preserved c =
    let kinds = c.args.kinds.now in (
      omega arith,
      length-set c.loop-i.square c.loop-i.i c.pattern.result
          ∙ c.loop-i.invariant.1,
      copied_more (λ (k : ℕ). pattern_of (get_or kinds k 0)) c.loop-i.square c.loop-i.i c.pattern.result c.loop-i-test.true
          c.pattern.ensures c.loop-i.invariant.2,
    )

pub shape_of-square : goal.shape_of-square
shape_of-square c = c.loop-i.invariant.1

pub returns : goal.returns
returns c = record { is = λ k lo hi. c.loop-i.invariant.2 k (omega arith) }
