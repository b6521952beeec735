-- `errors::add` meets its contract. Assumes nothing.
use Rattle.general.proofs.Names.{refl, length, arith}
use Rattle.general.proofs.Each.{each_start, each_end}
use Rattle.reed_solomon.proofs.Residue.{repaired_next}
use Rattle.reed_solomon.proofs.errors.add.Goals as goal

pub loop-k-init : goal.loop-k-init
loop-k-init c = (each_start _ _, omega arith, refl)

pub bounds-e-n : goal.bounds-e-n
bounds-e-n c = omega (arith, c.loop-k.invariant.2)

pub bounds-block-k : goal.bounds-block-k
bounds-block-k c = omega (arith, c.loop-k.invariant.0.size)

pub bounds-block-k-in-loop-k : goal.bounds-block-k-in-loop-k
bounds-block-k-in-loop-k c = omega (arith, c.loop-k.invariant.0.size)

pub loop-k-preserved : goal.loop-k-preserved
loop-k-preserved c = (
  repaired_next (length c.args.block.now) c.loop-k.k c.args.e.now c.args.block.now c.loop-k.block c.loop-k.invariant.0
      (omega arith),
  omega arith,
  refl,
)

pub shape_of-block : goal.shape_of-block
shape_of-block c = c.loop-k.invariant.0.size

pub returns : goal.returns
returns c = each_end _ _ _ _ _ c.loop-k.invariant.0 (omega arith) (omega arith)
