-- `finder_lines` meets its contract.
use Rattle.symbol.proofs.CornerRows.{row_room, row_more, beyond_none}
use Rattle.symbol.specs.Inner.{UpTo, corner_kind}
use Rattle.general.proofs.Names.{◌≡◌, subst, ℕ, ◌*◌, ◌<◌, ◌≤◌, length, arith}
use Rattle.symbol.proofs.corners.finder_lines.Goals as goal

pub loop-row-init : goal.loop-row-init
loop-row-init c = (c.requires.6, beyond_none, omega arith, c.requires.3)

pub finder_line-requires : goal.finder_line-requires
finder_line-requires c =
    let test = c.loop-row-test.true in
    let long : c.args.side * c.args.side ≤ length c.loop-row.out = omega arith in
    let l : c.loop-row.row < c.args.side = omega arith in
    (row_room c.requires.0 c.requires.1 long l, c.requires.5 _ c.loop-row.invariant.2 test)

pub overflow_add-row : goal.overflow_add-row
overflow_add-row c = omega arith

pub loop-row-smaller : goal.loop-row-smaller
loop-row-smaller c = omega arith

pub loop-row-preserved : goal.loop-row-preserved
loop-row-preserved c =
    let l : c.loop-row.row < c.args.side = omega arith in
    let p = row_more _ _ c.requires.0 l (c.loop-row.invariant.0, c.loop-row.invariant.1) c.finder_line.ensures in
    (p.0, p.1, omega arith, omega arith)

pub shape_of-out : goal.shape_of-out
shape_of-out c = c.loop-row.invariant.1.size

pub returns : goal.returns
returns c =
    let s = c.args.side in
    let e : c.loop-row.row ≡ c.args.to = omega arith in
    (subst (λ (n : ℕ). UpTo (corner_kind s) (s * s) (n * s) c.loop-row.out) e c.loop-row.invariant.0, c.loop-row.invariant.1)
