-- `errors::roots` meets its contract: the terms are carried from four degrees to the next four. Assumes nothing.
use Rattle.general.proofs.Names.{sym, arith}
use Rattle.general.proofs.Each.{each_start}
use Rattle.reed_solomon.proofs.Terms.{terms_start, values_next, values_end}
use Rattle.reed_solomon.proofs.errors.roots.Goals as goal

pub loop-d-init : goal.loop-d-init
loop-d-init c = (terms_start _ _ _ c.requires.l_bound.2 c.requires.l_bound.1, each_start _ _, omega arith)

pub slice_bounds-step-end : goal.slice_bounds-step-end
slice_bounds-step-end c = sym c.loop-d.invariant.0.size

pub step-v-requires : goal.step-v-requires
step-v-requires c = record { field = c.requires.field; l_bound = (c.requires.l_bound.0, omega arith) }

pub put-requires : goal.put-requires
put-requires c = omega arith

pub loop-d-preserved : goal.loop-d-preserved
loop-d-preserved c =
    let next = c.step-v.ensures _ _ c.loop-d.invariant.0 in (
      next.1,
      values_next _ _ _ _ _ _ _ _ _ _ _ next.0 (omega arith) c.loop-d.invariant.1 c.put.ensures,
      omega arith,
    )

pub shape_of-e : goal.shape_of-e
shape_of-e c = c.loop-d.invariant.1.size

pub returns : goal.returns
returns c = values_end _ _ _ _ _ _ _ c.loop-d.invariant.1 (omega arith) c.requires.l_bound.4
