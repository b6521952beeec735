-- `line_left` meets its contract.
use Rattle.general.proofs.Names.{◌+◌, ◌<◌, length, arith}
use lib.IntN.{nat_abs}
use mir.Syntax.{w64}
use mir.Val.{to_z, of_z}
use Rattle.symbol.specs.Layout.{line_left}
use Rattle.symbol.proofs.Coordinates.{inside, cast_inside}
use Rattle.symbol.proofs.LineRuns.{Here, here, room_below, two_runs}
use Rattle.symbol.proofs.Plots.{numbered}
use Rattle.symbol.proofs.Stored.{stored_none}
use Rattle.symbol.proofs.patterns.line_left.Goals as goal
use Rattle.symbol.proofs.patterns.line_left.Goals.{Start}

column : (s : Start) → nat_abs (to_z w64 (of_z w64 s.args.x)) < s.args.side
column s = (inside s.ranges.x s.requires.2).within

row : (s : Start) → nat_abs (to_z w64 (of_z w64 s.args.y)) < s.args.side
row s = (inside s.ranges.y s.requires.3).within

at : (s : Start) → Here s.args.side (nat_abs (to_z w64 (of_z w64 s.args.x))) (nat_abs (to_z w64 (of_z w64 s.args.y))) (column s) (row s) (length s.args.grid.now)
at s = here _ _ _ (column s) (row s) _ s.requires.0 s.requires.1

pub overflow_cast-column : goal.overflow_cast-column
overflow_cast-column c = cast_inside c.ranges.x c.requires.2 c.requires.0

pub overflow_cast-row : goal.overflow_cast-row
overflow_cast-row c = cast_inside c.ranges.y c.requires.3 c.requires.0

pub overflow_mul-at : goal.overflow_mul-at
overflow_mul-at c = omega (arith, (at (goal.at.overflow_mul-at c).Start).fits)

pub overflow_add-at : goal.overflow_add-at
overflow_add-at c = omega (arith, (at (goal.at.overflow_add-at c).Start).fits)

pub overflow_sub-at : goal.overflow_sub-at
overflow_sub-at c = omega arith

pub overflow_add-at-2 : goal.overflow_add-at-2
overflow_add-at-2 c = omega (arith, (at (goal.at.overflow_add-at-2 c).Start).fits)

pub draw-requires : goal.draw-requires
draw-requires c = let h = at (goal.at.draw-requires c).Start in (omega arith, omega arith)

pub overflow_add-row : goal.overflow_add-row
overflow_add-row c = omega (arith, row (goal.at.overflow_add-row c).Start)

pub returns-then-side-row : goal.returns-then-side-row
returns-then-side-row c =
    let least = c.least.ensures in
    numbered (λ x y. line_left x y c.args.width) c.ranges.x c.ranges.y c.requires.2.whole c.requires.3.whole
    (two_runs c.args.side _ _ (column (goal.at.returns-then-side-row c).Start) (row (goal.at.returns-then-side-row c).Start) c.args.width _ 0 0
    c.requires.1 least.0 least.1 least.2 (omega arith) (λ p a b. absurd (omega arith)) (λ p j a b d e. absurd (omega arith))
    c.draw.ensures (stored_none _ 0 _))

pub overflow_add-at-3 : goal.overflow_add-at-3
overflow_add-at-3 c = omega (arith, ((at (goal.at.overflow_add-at-3 c).Start).below (omega arith)).1)

pub overflow_sub-at-2 : goal.overflow_sub-at-2
overflow_sub-at-2 c = omega arith

pub overflow_add-at-4 : goal.overflow_add-at-4
overflow_add-at-4 c = omega (arith, ((at (goal.at.overflow_add-at-4 c).Start).below (omega arith)).1)

pub draw-requires-2 : goal.draw-requires-2
draw-requires-2 c = let b = (at (goal.at.draw-requires-2 c).Start).below (omega arith) in (omega arith, omega arith)

pub returns : goal.returns
returns c =
    let least = c.least.ensures in
    let least2 = c.least-2.ensures in
    let l : nat_abs (to_z w64 (of_z w64 c.args.y)) + 1 < c.args.side = omega
    arith in
    numbered (λ x y. line_left x y c.args.width) c.ranges.x c.ranges.y c.requires.2.whole c.requires.3.whole
    (two_runs c.args.side _ _ (column (goal.at.returns c).Start) (row (goal.at.returns c).Start) c.args.width _ _ _
    c.requires.1 least.0 least.1 least.2 (omega (arith, room_below c.args.side _ _ (column (goal.at.returns c).Start) (row (goal.at.returns c).Start) l))
    (λ p a b. (omega arith, omega arith, omega arith, l))
    (λ p j a b d e. (omega (arith, least2.2 (j + 1) (omega arith) b), omega arith))
    c.draw.ensures c.draw-2.ensures)
