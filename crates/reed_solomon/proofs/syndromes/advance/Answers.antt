-- `syndromes::advance` meets its contract: one syndrome after the other is advanced. Assumes nothing.
use Rattle.general.proofs.Names.{ap, ℕ, bit_xor, arith}
use Rattle.reed_solomon.specs.Block.{eval_from}
use Rattle.general.proofs.Each.{each_start, each_next, each_end}
use Rattle.reed_solomon.proofs.syndromes.advance.Goals as goal

pub loop-j-init : goal.loop-j-init
loop-j-init c = (each_start _ _, omega arith)

pub bounds-s-j : goal.bounds-s-j
bounds-s-j c = omega (arith, c.loop-j.invariant.0.size)

pub bounds-s-j-in-loop-j : goal.bounds-s-j-in-loop-j
bounds-s-j-in-loop-j c = omega (arith, c.loop-j.invariant.0.size)

pub loop-j-preserved : goal.loop-j-preserved
unfolding eval_from
loop-j-preserved c = (each_next _ _ _ _ _ c.loop-j.invariant.0 (omega arith) (ap (λ (x : ℕ). bit_xor x c.args.byte) c.raised.ensures), omega arith)

pub shape_of-s : goal.shape_of-s
shape_of-s c = c.loop-j.invariant.0.size

pub returns : goal.returns
returns c = each_end _ _ _ _ _ c.loop-j.invariant.0 (omega arith) (omega arith)
