-- `copy` meets its contract: one byte more in each turn. Assumes nothing.
use Rattle.general.proofs.Names.{refl, arith, drop, paste-zero, rules}
use Rattle.blocks.proofs.Splice.{copy_more, copy_end}
use Rattle.blocks.proofs.copy.Goals as goal

pub loop-i-init : goal.loop-i-init
loop-i-init c = (omega arith, refl, paste-zero c.args.dst.now c.args.to (drop c.args.from c.args.src.now))

pub loop-i-preserved : goal.loop-i-preserved
loop-i-preserved c = (
  omega arith,
  search rules,
  copy_more _ c.args.src.now c.args.dst.now c.args.to c.args.from c.loop-i.i c.loop-i.invariant.2 (omega arith) (omega arith),
)

pub shape_of-dst : goal.shape_of-dst
shape_of-dst c = c.loop-i.invariant.1

pub returns : goal.returns
returns c =
    copy_end _ c.args.src.now c.args.dst.now c.args.to c.args.from
    c.loop-i.i c.args.n c.loop-i.invariant.2 c.loop-i.invariant.0 (omega arith)
