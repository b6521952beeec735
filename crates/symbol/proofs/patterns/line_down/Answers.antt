-- `line_down` meets its contract.
-- what `edge_down` asks
use Rattle.general.proofs.Names.{refl, length, ◌*◌, ◌<◌, ◌≤◌, arith}
use lib.IntN.{nat_abs}
use lib.Signed.{mag}
use mir.Syntax.{w64}
use mir.Val.{to_z, of_z}
use Rattle.symbol.specs.Layout.{line_down}
use Rattle.symbol.proofs.Plots.{numbered, heard}
use Rattle.symbol.proofs.Coordinates.{read, cast_inside, near_inside}
use Rattle.symbol.proofs.patterns.line_down.Goals as goal
use Rattle.symbol.proofs.patterns.line_down.Goals.{Start}

edge : (s : Start) → (s.args.side ≤ 189) × (s.args.side * s.args.side ≤ length s.args.grid.now)
    × (mag (to_z w64 (of_z w64 s.args.x)) < 200) × (mag (to_z w64 (of_z w64 s.args.y)) < 200) × (1 ≤ s.args.height) × (s.args.height < 200)
edge s = let x-near = near_inside s.ranges.x s.requires.2 s.requires.0 in
    let y-near = near_inside s.ranges.y s.requires.3 s.requires.0 in
    (s.requires.0, s.requires.1, x-near, y-near, s.requires.4, s.requires.5)

pub overflow_cast-column : goal.overflow_cast-column
overflow_cast-column c = cast_inside c.ranges.x c.requires.2 c.requires.0

pub overflow_cast-row : goal.overflow_cast-row
overflow_cast-row c = cast_inside c.ranges.y c.requires.3 c.requires.0

pub edge_down-requires : goal.edge_down-requires
edge_down-requires c = edge (goal.at.edge_down-requires c).Start

pub returns-then-column-eq0 : goal.returns-then-column-eq0
returns-then-column-eq0 c = heard (λ x y. line_down x y c.args.height) c.ranges.x c.ranges.y refl refl c.edge_down.ensures

pub overflow_add-row : goal.overflow_add-row
overflow_add-row c = omega (arith, read nat_abs c.ranges.y)

pub edge_down-requires-then-side-row : goal.edge_down-requires-then-side-row
edge_down-requires-then-side-row c = edge (goal.at.edge_down-requires-then-side-row c).Start

pub returns-then-side-row : goal.returns-then-side-row
returns-then-side-row c = heard (λ x y. line_down x y c.args.height) c.ranges.x c.ranges.y refl refl c.edge_down-then-side-row.ensures

pub returns : goal.returns
returns c =
    numbered (λ x y. line_down x y c.args.height) c.ranges.x c.ranges.y c.requires.2.whole c.requires.3.whole
    c.run_down.ensures
