-- `nine` meets its contract. Assumes nothing.
use Rattle.block_table.proofs.Rows.{copied_more}
use Rattle.general.proofs.Names.{get_or, length-set, ◌+◌, refl, ◌∙◌, arith}
use Rattle.block_table.proofs.nine.Goals as goal

pub loop-n-init : goal.loop-n-init
loop-n-init c = (omega arith, refl, λ k h. absurd (omega arith))

pub overflow_add-row : goal.overflow_add-row
overflow_add-row c = omega (arith, c.requires.0)

pub bounds-table-at : goal.bounds-table-at
bounds-table-at c = omega (arith, c.requires.1)

pub bounds-row-n : goal.bounds-row-n
bounds-row-n c = omega arith

pub overflow_add-n : goal.overflow_add-n
overflow_add-n c = omega arith

pub loop-n-smaller : goal.loop-n-smaller
loop-n-smaller c = omega arith

pub loop-n-preserved : goal.loop-n-preserved
loop-n-preserved c = (
  omega arith,
  length-set c.loop-n.row c.loop-n.n _ ∙ c.loop-n.invariant.1,
  copied_more (λ k. get_or c.args.table.now (c.args.at + k) 0)
      c.loop-n.row c.loop-n.n _ (omega arith) refl c.loop-n.invariant.2,
)

pub returns : goal.returns
returns c = (c.loop-n.invariant.1, λ k h. c.loop-n.invariant.2 k (omega arith))
