-- `corners` meets its contract.
use Rattle.general.proofs.Names.{◌*◌, ◌≤◌, length, zero-mul, arith}
use Rattle.symbol.proofs.CornerRows.{edge_top, edge_bottom, row_room, all_blank, upper_arm, lower_arm, middle_rows, corners_stored}
use Rattle.symbol.proofs.corners.corners.Goals as goal

pub finder_lines-requires : goal.finder_lines-requires
finder_lines-requires c =
    let s = c.args.side in
    let blank = all_blank _ _ (0 * s) (zero-mul s) c.run.ensures in
    let long : s * s ≤ length c.run.new.out = omega arith in
    (c.requires.0, c.requires.1, long, omega arith, omega arith, (λ r h k. omega (arith, edge_top s r)), blank)

pub information_line-requires : goal.information_line-requires
information_line-requires c =
    let long : c.args.side * c.args.side ≤ length c.finder_lines.new.out = omega arith in
    (row_room c.requires.0 c.requires.1 long (omega arith), upper_arm _ c.requires.0)

pub information_line-requires-2 : goal.information_line-requires-2
information_line-requires-2 c =
    let s = c.args.side in
    let long : s * s ≤ length c.information_line.new.out = omega arith in
    (row_room c.requires.0 c.requires.1 long (omega arith), lower_arm _ c.requires.0)

pub finder_lines-requires-2 : goal.finder_lines-requires-2
finder_lines-requires-2 c =
    let s = c.args.side in
    let middle = middle_rows s c.requires.0 c.finder_lines.ensures c.information_line.ensures c.information_line-2.ensures in
    let size : s * s ≤ length c.information_line-2.new.out = omega arith in
    (c.requires.0, c.requires.1, size, omega arith, omega arith, (λ r h k. omega (arith, edge_bottom s r)), middle.0)

pub returns : goal.returns
returns c =
    let lower = c.finder_lines-2.ensures in
    let middle = middle_rows _ c.requires.0 c.finder_lines.ensures c.information_line.ensures c.information_line-2.ensures in
    corners_stored c.run.ensures middle.1 lower.1 lower.0
