-- `mask_row` meets its contract. Assumes nothing.
use Rattle.masks.proofs.Rows.{filling_start, filling_next, row_none, mask_above}
use Rattle.general.proofs.Names.{sym, ◌∙◌, ◌<◌, arith}
use Rattle.masks.proofs.mask_row.Goals as goal

pub returns-then-mask-eq0 : goal.returns-then-mask-eq0
returns-then-mask-eq0 c = (c.requires.4, λ k hi. row_none c.args.i c.requires.4 c.if-mask-eq0.true k)

pub copy_row-requires : goal.copy_row-requires
copy_row-requires c = (omega arith, c.if-mask-lt3.true, c.requires.1, c.requires.3, c.requires.4)

pub returns-then-mask-lt3 : goal.returns-then-mask-lt3
returns-then-mask-lt3 c = c.copy_row.ensures

pub loop-c-init : goal.loop-c-init
loop-c-init c = filling_start c.requires.4

pub inverts_three-requires : goal.inverts_three-requires
inverts_three-requires c =
    let m : 2 < c.args.mask = omega arith in (
      c.requires.2.size,
      c.requires.0,
      omega arith,
      c.requires.2.column m c.args.i (omega arith),
      c.requires.3.column m
          c.loop-c.c c.loop-c-test.true,
    )

pub bounds-row-c : goal.bounds-row-c
bounds-row-c c = omega arith

pub overflow_add-c : goal.overflow_add-c
overflow_add-c c = omega arith

pub loop-c-smaller : goal.loop-c-smaller
loop-c-smaller c = omega arith

pub loop-c-preserved : goal.loop-c-preserved
loop-c-preserved c =
    let m : 2 < c.args.mask = omega arith in
    filling_next _ c.loop-c.invariant (omega (arith, m)) (omega arith)
    (c.inverts_three.ensures.0 ∙ mask_above c.args.mask _ _ m) c.inverts_three.ensures.1

pub shape_of-row : goal.shape_of-row
shape_of-row c = c.loop-c.invariant.row_is.size ∙ sym c.requires.4.size

pub returns : goal.returns
returns c = (c.loop-c.invariant.row_is, λ k hi. c.loop-c.invariant.done k (omega arith))
