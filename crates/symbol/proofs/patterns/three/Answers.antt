-- `three` meets its contract.
use Rattle.general.proofs.Names.{refl, [], ◌∷◌, arith}
use Rattle.symbol.specs.Layout.{three_at, plot, light}
use Rattle.symbol.proofs.Coordinates.{back_fits, back_is, forth_fits, forth_is}
use Rattle.symbol.proofs.Plots.{next, heard}
use Rattle.symbol.proofs.patterns.three.Goals as goal

pub overflow_sub-x : goal.overflow_sub-x
overflow_sub-x c = back_fits 1 c.ranges.x c.requires.2 (omega arith)

pub overflow_add-x : goal.overflow_add-x
overflow_add-x c = forth_fits 1 c.ranges.x c.requires.2 (omega arith)

pub returns : goal.returns
unfolding three_at
returns c =
    next (heard (λ a b. plot a b light ∷ []) (back_fits 1 c.ranges.x c.requires.2 (omega arith)) c.ranges.y
    (back_is 1 c.ranges.x c.requires.2 (omega arith)) refl c.plot.ensures)
    (next (heard (λ a b. plot a b c.args.kind ∷ []) c.ranges.x c.ranges.y refl refl
    c.plot-2.ensures)
    (heard (λ a b. plot a b light ∷ []) (forth_fits 1 c.ranges.x c.requires.2 (omega arith)) c.ranges.y
    (forth_is 1 c.ranges.x c.requires.2 (omega arith)) refl c.plot-3.ensures))
