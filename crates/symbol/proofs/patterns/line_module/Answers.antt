-- `line_module` meets its contract.
use Rattle.general.proofs.Names.{refl, [], ◌∷◌, arith}
use Rattle.symbol.specs.Layout.{line_module, plot, light, dark}
use Rattle.symbol.proofs.Coordinates.{back_fits, back_is, forth_fits, forth_is}
use Rattle.symbol.proofs.Plots.{next, heard}
use Rattle.symbol.proofs.patterns.line_module.Goals as goal

pub overflow_sub-x : goal.overflow_sub-x
overflow_sub-x c = back_fits 1 c.ranges.x c.requires.2 (omega arith)

pub overflow_add-y : goal.overflow_add-y
overflow_add-y c = forth_fits 1 c.ranges.y c.requires.3 (omega arith)

pub returns : goal.returns
unfolding line_module
returns c =
    next (heard (λ a b. plot a b dark ∷ []) c.ranges.x c.ranges.y refl refl c.plot.ensures)
    (heard (λ a b. plot a b light ∷ []) (back_fits 1 c.ranges.x c.requires.2 (omega arith))
    (forth_fits 1 c.ranges.y c.requires.3 (omega arith))
    (back_is 1 c.ranges.x c.requires.2 (omega arith)) (forth_is 1 c.ranges.y c.requires.3 (omega arith))
    c.plot-2.ensures)
