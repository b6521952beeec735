-- `plot_at` meets its contract.
use Rattle.general.proofs.Names.{◌≡◌, sym, ◌+◌, ◌*◌, ◌<◌, arith}
use lib.Arith.{digits_lt}
use lib.IntN.{pos}
use Rattle.symbol.specs.Layout.{plot_all, place_at}
use Rattle.symbol.proofs.Plots.{plot_kept, plot_set}
use Rattle.symbol.proofs.Coordinates.{square_le, whole_in}
use Rattle.symbol.proofs.patterns.plot_at.Goals as goal
use Rattle.symbol.proofs.patterns.plot_at.Goals.{Start}

inside : (s : Start) → s.args.row * s.args.side + s.args.column < s.args.side * s.args.side
inside s = digits_lt s.requires.3 s.requires.2

small : (s : Start) → s.args.row * s.args.side + s.args.column < 35721
small s = omega (arith, (inside s), square_le _ s.requires.0)

place : (s : Start) → s.args.row * s.args.side + s.args.column ≡ place_at s.args.side (pos s.args.column) (pos s.args.row)
place s = sym (whole_in s.args.side _ _ s.requires.2 s.requires.3)

pub overflow_mul-i : goal.overflow_mul-i
overflow_mul-i c = omega (arith, small (goal.at.overflow_mul-i c).Start)

pub overflow_add-i : goal.overflow_add-i
overflow_add-i c = omega (arith, small (goal.at.overflow_add-i c).Start)

pub bounds-grid-i : goal.bounds-grid-i
bounds-grid-i c = omega (arith, inside (goal.at.bounds-grid-i c).Start)

pub returns-then-grid-i-ne0 : goal.returns-then-grid-i-ne0
unfolding plot_all
returns-then-grid-i-ne0 c = record { is = plot_kept _ _ _ _ _ _ (place (goal.at.returns-then-grid-i-ne0 c).Start) (inside (goal.at.returns-then-grid-i-ne0 c).Start) c.if-grid-i-ne0.true }

pub bounds-grid-i-2 : goal.bounds-grid-i-2
bounds-grid-i-2 c = omega (arith, inside (goal.at.bounds-grid-i-2 c).Start)

pub returns : goal.returns
unfolding plot_all
returns c = record { is = plot_set _ _ _ _ _ _ (place (goal.at.returns c).Start) (inside (goal.at.returns c).Start) (omega arith) }
