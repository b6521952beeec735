-- `from_stream` meets its contract. Assumes nothing.
use Rattle.codewords.proofs.Interleave.{move_first, move_last}
use Rattle.general.proofs.Names.{false, refl, ◌∙◌, arith}
use Rattle.codewords.proofs.from_stream.Goals as goal

pub loop-start-init : goal.loop-start-init
loop-start-init c = (
  move_first false c.args.total c.args.stream.now c.args.out.now c.requires.0 c.requires.1
      c.requires.2,
  refl,
  omega arith,
  refl,
)

pub collect_start-i-requires : goal.collect_start-i-requires
collect_start-i-requires c = (c.loop-start.invariant.0, c.loop-start-test.true)

pub overflow_add-start : goal.overflow_add-start
overflow_add-start c = omega arith

pub loop-start-smaller : goal.loop-start-smaller
loop-start-smaller c = omega arith

pub loop-start-preserved : goal.loop-start-preserved
loop-start-preserved c = (c.collect_start-i.ensures.0, c.collect_start-i.ensures.1 ∙ c.loop-start.invariant.1, omega arith, c.collect_start-i.auto.out ∙ c.loop-start.invariant.3)

pub shape_of-out : goal.shape_of-out
shape_of-out c = c.loop-start.invariant.3

pub returns : goal.returns
returns c = move_last false c.args.out.now c.loop-start.invariant.0 c.loop-start-test.false c.loop-start.invariant.1
