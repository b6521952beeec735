-- `assistant_if_odd` meets its contract.
use Rattle.general.proofs.Names.{refl, ◌≤◌, arith}
use Rattle.symbol.specs.Layout.{assistant}
use Rattle.symbol.proofs.Coordinates.{near_inside}
use Rattle.symbol.proofs.Plots.{heard, odd_one, even_none}
use Rattle.symbol.proofs.patterns.assistant_if_odd.Goals as goal

pub returns-then-n-eq0 : goal.returns-then-n-eq0
returns-then-n-eq0 c = even_none _ _ _ c.if-n-eq0.true

pub assistant-requires : goal.assistant-requires
assistant-requires c =
    let h : c.args.p.side ≤ 189 = omega arith in
    (h, c.requires.0.room, omega (arith, near_inside c.ranges.x c.requires.1 h), omega (arith, near_inside c.ranges.y c.requires.2 h))

pub returns : goal.returns
returns c =
    odd_one c.args.n c.args.x c.args.y (omega arith)
    (heard assistant c.ranges.x c.ranges.y refl refl c.assistant.ensures)
