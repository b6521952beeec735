-- `all_digits` meets its contract. Assumes nothing.
use Rattle.general.proofs.Names.{refl, sym, ◌∙◌, arith}
use Rattle.script.proofs.Runs.{digits_next, digits_end}
use Rattle.script.proofs.values.all_digits.Goals as goal

pub loop-j-init : goal.loop-j-init
loop-j-init c = (omega arith, refl)

pub bounds-run-j : goal.bounds-run-j
bounds-run-j c = omega arith

pub overflow_add-j : goal.overflow_add-j
overflow_add-j c = omega arith

pub loop-j-smaller : goal.loop-j-smaller
loop-j-smaller c = omega arith

pub loop-j-preserved : goal.loop-j-preserved
loop-j-preserved c = (
  omega arith,
  c.loop-j.invariant.1 ∙ digits_next _ c.loop-j.j c.loop-j.top c.digit_value.result c.greater-top.result (omega arith)
      c.digit_value.ensures c.greater-top.ensures,
)

pub returns : goal.returns
returns c = digits_end _ c.loop-j.j c.loop-j.top (omega arith) ∙ sym c.loop-j.invariant.1
