-- `finder_row` meets its contract.
use Rattle.general.proofs.Names.{refl, sym, ◌∙◌, arith}
use Rattle.symbol.proofs.CornerRows.{edge_low, edge_top, edge_bottom, upper_row, lower_row}
use Rattle.symbol.proofs.corners.finder_row.Goals as goal

pub returns-then-row-lt7 : goal.returns-then-row-lt7
returns-then-row-lt7 c = (
  c.finder_at.ensures.1,
  (
    λ l. c.finder_at.ensures.0
        ∙ sym (upper_row _ _ c.args.row
        c.if-row-lt7.true),
    λ e. absurd (omega (arith, edge_top c.args.side c.args.row)),
  ),
)

pub returns-then-side-row : goal.returns-then-side-row
returns-then-side-row c = (
  c.finder_at-then-side-row.ensures.1,
  (
    λ l. c.finder_at-then-side-row.ensures.0
        ∙ sym (lower_row _ _ c.args.row
        c.if-row-lt7.false),
    λ e. absurd (omega (arith, edge_bottom c.args.side c.args.row)),
  ),
)

pub returns : goal.returns
returns c = (omega arith, (λ l. absurd (omega (arith, edge_low _ _ 7 l c.if-row-lt7.false)), λ e. refl))
