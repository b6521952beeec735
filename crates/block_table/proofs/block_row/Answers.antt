-- `block_row` meets its contract. Assumes nothing.
use Rattle.block_table.proofs.Rows.{row_copied}
use Rattle.block_table.specs.Table.{blocks}
use Rattle.general.proofs.Names.{get_or-take, ◌+◌, ◌-◌, ◌*◌, ◌∙◌, arith}
use Rattle.block_table.proofs.block_row.Goals as goal

pub overflow_sub-at : goal.overflow_sub-at
overflow_sub-at c = omega arith

pub overflow_mul-at : goal.overflow_mul-at
overflow_mul-at c = omega arith

pub overflow_add-at : goal.overflow_add-at
overflow_add-at c = omega arith

pub overflow_mul-at-2 : goal.overflow_mul-at-2
overflow_mul-at-2 c = omega arith

pub nine-requires : goal.nine-requires
nine-requires c = (omega arith, omega arith)

pub returns-then-version-le10 : goal.returns-then-version-le10
unfolding blocks
returns-then-version-le10 c =
    let v = c.args.version in
    let level = c.args.level in
    row_copied v level c.requires.0 c.requires.1 c.requires.2 _ c.nine.ensures.0
    (λ k h. c.nine.ensures.1 k h ∙ get_or-take 360 blocks ((4 * (v - 1) + level) * 9 + k) 0 (omega arith))

pub nine-requires-2 : goal.nine-requires-2
nine-requires-2 c = (omega arith, omega arith)

pub returns : goal.returns
unfolding blocks
returns c = row_copied c.args.version c.args.level c.requires.0 c.requires.1
    c.requires.2 _ c.nine-2.ensures.0 c.nine-2.ensures.1
