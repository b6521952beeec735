-- `assistant` meets its contract.
use Rattle.general.proofs.Names.{refl, arith}
use Rattle.symbol.specs.Layout.{three_at, assistant, light, dark}
use Rattle.symbol.proofs.Coordinates.{back_fits, back_is, forth_fits, forth_is}
use Rattle.symbol.proofs.Plots.{next, heard}
use Rattle.symbol.proofs.patterns.assistant.Goals as goal

pub overflow_sub-y : goal.overflow_sub-y
overflow_sub-y c = back_fits 1 c.ranges.y c.requires.3 (omega arith)

pub overflow_add-y : goal.overflow_add-y
overflow_add-y c = forth_fits 1 c.ranges.y c.requires.3 (omega arith)

pub returns : goal.returns
unfolding assistant
returns c =
    next (heard (λ a b. three_at a b light) c.ranges.x (back_fits 1 c.ranges.y c.requires.3 (omega arith)) refl
    (back_is 1 c.ranges.y c.requires.3 (omega arith)) c.three.ensures)
    (next (heard (λ a b. three_at a b dark) c.ranges.x c.ranges.y refl refl c.three-2.ensures)
    (heard (λ a b. three_at a b light) c.ranges.x (forth_fits 1 c.ranges.y c.requires.3 (omega arith)) refl
    (forth_is 1 c.ranges.y c.requires.3 (omega arith)) c.three-3.ensures))
