-- `line_of` meets its contract.
use Rattle.general.proofs.Names.{sym, arith}
use Rattle.symbol.proofs.Lines.{line_near, line_last, near_side}
use Rattle.symbol.proofs.alignment.line_of.Goals as goal

pub overflow_mul-result : goal.overflow_mul-result
overflow_mul-result c = omega (arith, near_side c.requires.0 _ c.if-n-p.true)

pub returns-then-n-p : goal.returns-then-n-p
returns-then-n-p c =
    let n = c.args.n in
    let h = c.if-n-p.true in
    (sym (line_near c.requires.0 n h), omega (arith, near_side c.requires.0 n h))

pub returns : goal.returns
returns c = (sym (line_last c.requires.0 _ c.if-n-p.false c.requires.1), omega arith)
