-- `plot` meets its contract.
use Rattle.general.proofs.Names.{true, false, [], ◌∷◌, ◌≡◌, ◌*◌, arith}
use Rattle.symbol.specs.Inner.{Plotted}
use Rattle.symbol.specs.Layout.{plot, plot_all, place_at}
use Rattle.symbol.proofs.Coordinates.{place_left, place_above, below_zero, cast, right_of, under, whole_is}
use Rattle.symbol.proofs.Plots.{plot_out, numbered}
use Rattle.symbol.proofs.patterns.plot.Goals as goal
use Rattle.symbol.proofs.patterns.plot.Goals.{Start}

outside : (s : Start) → s.args.side * s.args.side ≡ place_at s.args.side s.args.x s.args.y
    → Plotted s.args.side (plot s.args.x s.args.y s.args.kind ∷ []) s.args.grid.now s.args.grid.now
unfolding plot_all
outside s e = record { is = plot_out _ _ _ _ _ _ e (omega arith) }

pub returns-then-x-lt0 : goal.returns-then-x-lt0
returns-then-x-lt0 c = outside (goal.at.returns-then-x-lt0 c).Start (place_left _ _ _ (below_zero true c.ranges.x c.if-x-lt0.true))

pub returns-then-y-lt0 : goal.returns-then-y-lt0
returns-then-y-lt0 c = outside (goal.at.returns-then-y-lt0 c).Start (place_above _ _ _ (below_zero true c.ranges.y c.if-y-lt0.true))

pub overflow_cast-column : goal.overflow_cast-column
overflow_cast-column c = cast _ c.ranges.x (below_zero false c.ranges.x c.if-x-lt0.false)

pub overflow_cast-row : goal.overflow_cast-row
overflow_cast-row c = cast _ c.ranges.y (below_zero false c.ranges.y c.if-y-lt0.false)

pub returns-then-side-column : goal.returns-then-side-column
returns-then-side-column c = outside (goal.at.returns-then-side-column c).Start (right_of _ _ _ c.ranges.x c.ranges.y c.if-side-column.true)

pub returns-then-side-row : goal.returns-then-side-row
returns-then-side-row c = outside (goal.at.returns-then-side-row c).Start (under _ _ _ c.ranges.x c.ranges.y c.if-side-column.false c.if-side-row.true)

pub returns : goal.returns
returns c =
    let x_is = whole_is _ (below_zero false c.ranges.x c.if-x-lt0.false) in
    let y-is = whole_is _ (below_zero false c.ranges.y c.if-y-lt0.false) in
    numbered (λ x y. plot x y c.args.kind ∷ []) c.ranges.x c.ranges.y x_is y-is c.plot_at.ensures
