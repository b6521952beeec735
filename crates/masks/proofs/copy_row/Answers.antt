-- `copy_row` meets its contract. Assumes nothing.
use Rattle.masks.proofs.Rows.{filling_start, filling_next, bit_copied}
use Rattle.general.proofs.Names.{sym, ◌∙◌, arith}
use Rattle.masks.proofs.copy_row.Goals as goal

pub section-at-requires : goal.section-at-requires
section-at-requires c = (c.requires.0, c.requires.1)

pub overflow_mul-at : goal.overflow_mul-at
overflow_mul-at c = omega (arith, c.section-at.ensures.0)

pub loop-c-init : goal.loop-c-init
loop-c-init c = filling_start c.requires.4

pub overflow_add-row : goal.overflow_add-row
overflow_add-row c = omega arith

pub offset_bounds-table-at : goal.offset_bounds-table-at
offset_bounds-table-at c = omega arith

pub bounds-table-at : goal.bounds-table-at
bounds-table-at c = omega arith

pub overflow_cast-row : goal.overflow_cast-row
overflow_cast-row c =
    omega (
      arith,
      (bit_copied c.args.i c.requires.3 c.requires.0 c.requires.1 c.section-at.ensures.0 c.section-at.ensures.1
          c.loop-c-test.true).1,
    )

pub bounds-row-c : goal.bounds-row-c
bounds-row-c c = omega arith

pub overflow_add-c : goal.overflow_add-c
overflow_add-c c = omega arith

pub loop-c-smaller : goal.loop-c-smaller
loop-c-smaller c = omega arith

pub loop-c-preserved : goal.loop-c-preserved
loop-c-preserved c =
    let bit = bit_copied c.args.i c.requires.3 c.requires.0 c.requires.1 c.section-at.ensures.0 c.section-at.ensures.1 c.loop-c-test.true in
    filling_next _ c.loop-c.invariant c.requires.0 (omega arith) bit.0 bit.1

pub shape_of-row : goal.shape_of-row
shape_of-row c = c.loop-c.invariant.row_is.size ∙ sym c.requires.4.size

pub returns : goal.returns
returns c = (c.loop-c.invariant.row_is, λ k hi. c.loop-c.invariant.done k (omega arith))
