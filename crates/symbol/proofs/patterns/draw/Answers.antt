-- `draw` meets its contract.
use Rattle.general.proofs.Names.{ℕ, ◌≡◌, ap, subst, ◌∙◌, get_or, arith}
use Rattle.symbol.proofs.Stored.{stored_none, stored_more}
use Rattle.symbol.specs.Inner.{Stored, drawn}
use Rattle.symbol.proofs.patterns.draw.Goals as goal

pub loop-i-init : goal.loop-i-init
loop-i-init c = (stored_none _ _ _, omega arith, omega arith)

pub bounds-grid-i : goal.bounds-grid-i
bounds-grid-i c = omega arith

pub bounds-grid-i-in-loop-i : goal.bounds-grid-i-in-loop-i
bounds-grid-i-in-loop-i c = omega arith

pub overflow_add-i : goal.overflow_add-i
overflow_add-i c = omega arith

pub loop-i-smaller : goal.loop-i-smaller
loop-i-smaller c = omega arith

pub loop-i-preserved : goal.loop-i-preserved
loop-i-preserved c =
    let kind = c.args.kind in (
      stored_more c.loop-i.invariant.1 (omega arith) (c.drawn.ensures ∙ ap (λ (a : ℕ). drawn a kind) (c.loop-i.invariant.0.after _ (omega arith)))
          c.loop-i.invariant.0,
      omega arith,
      omega arith,
    )

pub shape_of-grid : goal.shape_of-grid
shape_of-grid c = c.loop-i.invariant.0.size

pub returns : goal.returns
returns c =
    let e : c.loop-i.i ≡ c.args.to = omega arith in
    subst (λ (n : ℕ). Stored (λ j. drawn (get_or c.args.grid.now j 0) c.args.kind) c.args.from n c.args.grid.now c.loop-i.grid) e
    c.loop-i.invariant.0
