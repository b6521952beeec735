-- `run_down` meets its contract.
use Rattle.general.proofs.Names.{◌+◌, sym, ap, ◌∙◌, [], ◌∷◌, arith}
use lib.IntN.{ℤ, pos}
use Rattle.symbol.specs.Layout.{plot, line_module, line_down}
use Rattle.symbol.proofs.Coordinates.{difference}
use Rattle.symbol.proofs.Plots.{next, exactly, begun, again, ended}
use Rattle.symbol.proofs.patterns.run_down.Goals as goal

pub loop-i-init : goal.loop-i-init
unfolding line_down
loop-i-init c = begun

pub overflow_sub-height : goal.overflow_sub-height
unfolding line_down
overflow_sub-height c = omega arith

pub overflow_add-i : goal.overflow_add-i
unfolding line_down
overflow_add-i c = omega arith

pub overflow_add-row : goal.overflow_add-row
unfolding line_down
overflow_add-row c = omega arith

pub plot_at-requires : goal.plot_at-requires
unfolding line_down
plot_at-requires c = (c.requires.0, omega arith, c.requires.3, omega arith)

pub overflow_sub-column : goal.overflow_sub-column
unfolding line_down
overflow_sub-column c = omega arith

pub overflow_add-i-in-loop-i : goal.overflow_add-i-in-loop-i
unfolding line_down
overflow_add-i-in-loop-i c = omega arith

pub overflow_add-row-in-loop-i : goal.overflow_add-row-in-loop-i
unfolding line_down
overflow_add-row-in-loop-i c = omega arith

pub overflow_add-row-in-loop-i-2 : goal.overflow_add-row-in-loop-i-2
unfolding line_down
overflow_add-row-in-loop-i-2 c = omega arith

pub plot_at-requires-in-loop-i : goal.plot_at-requires-in-loop-i
unfolding line_down
plot_at-requires-in-loop-i c = (c.requires.0, omega arith, omega arith, omega arith)

pub overflow_add-i-in-loop-i-2 : goal.overflow_add-i-in-loop-i-2
unfolding line_down
overflow_add-i-in-loop-i-2 c = omega arith

pub loop-i-smaller : goal.loop-i-smaller
unfolding line_down
loop-i-smaller c = omega arith

pub loop-i-preserved : goal.loop-i-preserved
unfolding line_module
loop-i-preserved c =
    let e = ap (λ (x : ℤ). plot x (pos (c.args.row + (c.loop-i.i + 1) + 1)) 2 ∷ []) (sym (difference _ 1 c.requires.2)) in
    again (omega arith) c.loop-i.invariant (next c.plot_at.ensures (exactly e c.plot_at-in-loop-i.ensures)) (c.plot_at-in-loop-i.auto.grid ∙ c.plot_at.auto.grid)

pub shape_of-grid : goal.shape_of-grid
unfolding line_down
shape_of-grid c = c.loop-i.invariant.kept

pub returns : goal.returns
unfolding line_down
returns c = ended (omega arith) c.loop-i.invariant
