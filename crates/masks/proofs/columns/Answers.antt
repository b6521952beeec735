-- `columns` meets its contract. Assumes nothing.
use Rattle.masks.proofs.Rows.{columns_start, columns_none, columns_next}
use Rattle.masks.specs.Columns.{Columns}
use Rattle.general.proofs.Names.{◌≡◌, refl, sym, subst, ◌∙◌, ℕ, ◌+◌, set, length-set, arith}
use Rattle.masks.proofs.columns.Goals as goal

pub returns-then-mask-eq0 : goal.returns-then-mask-eq0
returns-then-mask-eq0 c = columns_none c.if-mask-eq0.true c.requires.1

pub fill_rows-requires : goal.fill_rows-requires
fill_rows-requires c = (c.requires.0, c.requires.1, omega arith, c.if-mask-lt3.true)

pub returns-then-mask-lt3 : goal.returns-then-mask-lt3
returns-then-mask-lt3 c = c.fill_rows.ensures

pub loop-c-init : goal.loop-c-init
loop-c-init c = (columns_start c.requires.1, omega arith)

pub overflow_add-c : goal.overflow_add-c
overflow_add-c c = omega arith

pub factor-requires : goal.factor-requires
factor-requires c = (omega arith, omega arith)

pub overflow_add-table : goal.overflow_add-table
overflow_add-table c = omega arith

pub offset_bounds-table-c : goal.offset_bounds-table-c
offset_bounds-table-c c = omega arith

pub bounds-table-c : goal.bounds-table-c
bounds-table-c c = omega arith

pub overflow_add-c-in-loop-c : goal.overflow_add-c-in-loop-c
overflow_add-c-in-loop-c c = omega arith

pub rest_of-requires : goal.rest_of-requires
rest_of-requires c = omega arith

pub overflow_add-table-in-loop-c : goal.overflow_add-table-in-loop-c
overflow_add-table-in-loop-c c = omega arith

pub offset_bounds-table-c-in-loop-c : goal.offset_bounds-table-c-in-loop-c
offset_bounds-table-c-in-loop-c c = omega arith

pub bounds-table-c-in-loop-c : goal.bounds-table-c-in-loop-c
bounds-table-c-in-loop-c c = omega (arith, length-set c.loop-c.table (192 + c.loop-c.c) c.factor.result)

pub overflow_add-table-in-loop-c-2 : goal.overflow_add-table-in-loop-c-2
overflow_add-table-in-loop-c-2 c = omega arith

pub overflow_cast-table : goal.overflow_cast-table
overflow_cast-table c = omega arith

pub offset_bounds-table-c-in-loop-c-2 : goal.offset_bounds-table-c-in-loop-c-2
offset_bounds-table-c-in-loop-c-2 c = omega arith

pub bounds-table-c-in-loop-c-2 : goal.bounds-table-c-in-loop-c-2
bounds-table-c-in-loop-c-2 c =
    let first = set c.loop-c.table (192 + c.loop-c.c) c.factor.result in
    omega (arith, length-set c.loop-c.table (192 + c.loop-c.c) c.factor.result, length-set first (384 + c.loop-c.c) c.rest_of.result)

pub overflow_add-c-in-loop-c-2 : goal.overflow_add-c-in-loop-c-2
overflow_add-c-in-loop-c-2 c = omega arith

pub loop-c-smaller : goal.loop-c-smaller
loop-c-smaller c = omega arith

pub loop-c-preserved : goal.loop-c-preserved
loop-c-preserved c = (columns_next _ _ _ c.loop-c.invariant.0 (omega arith) (omega arith) refl c.factor.ensures c.rest_of.ensures, omega arith)

pub shape_of-table : goal.shape_of-table
shape_of-table c = c.loop-c.invariant.0.size ∙ sym c.requires.1

pub returns : goal.returns
returns c = let e : c.loop-c.c ≡ c.args.n = omega arith in subst (λ (k : ℕ). Columns c.args.mask k c.loop-c.table) e c.loop-c.invariant.0
