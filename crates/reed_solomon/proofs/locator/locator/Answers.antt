-- `locator::locator` meets its contract. Assumes nothing.
use Rattle.general.proofs.Names.{refl, sym, ◌∙◌, replicate, arith}
use Rattle.reed_solomon.proofs.Massey.{zeros, register_start, register_end}
use Rattle.reed_solomon.proofs.locator.locator.Goals as goal

pub loop-r-init : goal.loop-r-init
loop-r-init c = (register_start _ _ c.args.f.now (replicate 256 0) c.requires.f_len.0 c.requires.f_len.1 refl (zeros 256), omega arith)

pub slice_bounds-extend-end : goal.slice_bounds-extend-end
slice_bounds-extend-end c = sym c.loop-r.invariant.0.size_g

pub extend-at-requires : goal.extend-at-requires
extend-at-requires c = record { field = c.requires.field; r_bound = omega arith; s_len = c.requires.s_len; register = c.loop-r.invariant.0 }

pub loop-r-preserved : goal.loop-r-preserved
loop-r-preserved c = (c.extend-at.ensures, omega arith)

pub shape_of-f : goal.shape_of-f
shape_of-f c = c.loop-r.invariant.0.size_f ∙ sym c.requires.f_len.0

pub returns : goal.returns
returns c = register_end _ _ _ _ _ _ _ _ _ c.loop-r.invariant.0 c.loop-r.invariant.1 (omega arith)
