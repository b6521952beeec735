-- `fill_rows` meets its contract. Assumes nothing.
use Rattle.masks.proofs.Rows.{columns_start, rows_next}
use Rattle.masks.specs.Columns.{Columns}
use Rattle.general.proofs.Names.{◌≡◌, sym, subst, ◌∙◌, ℕ, ◌+◌, set, length-set, arith}
use Rattle.masks.proofs.fill_rows.Goals as goal

pub loop-c-init : goal.loop-c-init
loop-c-init c = (columns_start c.requires.1, omega arith)

pub overflow_cast-j : goal.overflow_cast-j
overflow_cast-j c = omega (arith, c.requires.0)

pub inverts_low-requires : goal.inverts_low-requires
inverts_low-requires c = (c.requires.2, c.requires.3, omega arith, omega arith)

pub overflow_add-table : goal.overflow_add-table
overflow_add-table c = omega arith

pub offset_bounds-table-c : goal.offset_bounds-table-c
offset_bounds-table-c c = omega arith

pub bounds-table-c : goal.bounds-table-c
bounds-table-c c = omega arith

pub inverts_low-requires-in-loop-c : goal.inverts_low-requires-in-loop-c
inverts_low-requires-in-loop-c c = (c.requires.2, c.requires.3, omega arith, omega arith)

pub overflow_add-table-in-loop-c : goal.overflow_add-table-in-loop-c
overflow_add-table-in-loop-c c = omega arith

pub offset_bounds-table-c-in-loop-c : goal.offset_bounds-table-c-in-loop-c
offset_bounds-table-c-in-loop-c c = omega arith

pub bounds-table-c-in-loop-c : goal.bounds-table-c-in-loop-c
bounds-table-c-in-loop-c c = omega (arith, length-set c.loop-c.table (192 + c.loop-c.c) c.inverts_low.result)

pub inverts_low-requires-in-loop-c-2 : goal.inverts_low-requires-in-loop-c-2
inverts_low-requires-in-loop-c-2 c = (c.requires.2, c.requires.3, omega arith, omega arith)

pub offset_bounds-table-c-in-loop-c-2 : goal.offset_bounds-table-c-in-loop-c-2
offset_bounds-table-c-in-loop-c-2 c = omega arith

pub bounds-table-c-in-loop-c-2 : goal.bounds-table-c-in-loop-c-2
bounds-table-c-in-loop-c-2 c =
    let first = set c.loop-c.table (192 + c.loop-c.c) c.inverts_low.result in
    omega (arith, length-set c.loop-c.table (192 + c.loop-c.c) c.inverts_low.result, length-set first (384 + c.loop-c.c) c.inverts_low-in-loop-c.result)

pub overflow_add-c : goal.overflow_add-c
overflow_add-c c = omega arith

pub loop-c-smaller : goal.loop-c-smaller
loop-c-smaller c = omega arith

pub loop-c-preserved : goal.loop-c-preserved
loop-c-preserved c = (
  rows_next _ _ _ c.loop-c.invariant.0 (omega arith) c.requires.3 c.inverts_low-in-loop-c-2.ensures c.inverts_low.ensures
      c.inverts_low-in-loop-c.ensures,
  omega arith,
)

pub shape_of-table : goal.shape_of-table
shape_of-table c = c.loop-c.invariant.0.size ∙ sym c.requires.1

pub returns : goal.returns
returns c = let e : c.loop-c.c ≡ c.args.n = omega arith in subst (λ (k : ℕ). Columns c.args.mask k c.loop-c.table) e c.loop-c.invariant.0
