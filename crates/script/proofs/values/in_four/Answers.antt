-- `in_four` meets its contract. Assumes nothing.
use Rattle.general.proofs.Names.{sym, ap, List, ℕ, le-ltb, length, get_or}
use Rattle.segments.specs.Segments.{four_bytes}
use Rattle.script.specs.Writer.{in_four}
use Rattle.script.proofs.Runs.{four_none, four_last}
use Rattle.script.proofs.values.in_four.Goals as goal

pub returns-then-run-ne4 : goal.returns-then-run-ne4
unfolding four_bytes in_four
returns-then-run-ne4 c = four_none _ (λ e. c.if-run-ne4.true (ap length e))

pub returns-then-w-ge1587600 : goal.returns-then-w-ge1587600
unfolding four_bytes in_four
returns-then-w-ge1587600 c = rw (le-ltb _ 1587600 (rw c.four_code-w.ensures at c.if-w-ge1587600.true))

pub returns-then-w-as_usize : goal.returns-then-w-as_usize
unfolding four_bytes
returns-then-w-as_usize c = four_none _ (λ e. c.if-w-as_usize.true (rw (c.as_usize.ensures.0, c.four_code-w.ensures) (sym (ap (λ (z : List ℕ). get_or z 0 0) e))))

pub returns-then-w-as_usize-2 : goal.returns-then-w-as_usize-2
unfolding four_bytes
returns-then-w-as_usize-2 c = four_none _ (λ e. c.if-w-as_usize-2.true (rw (c.as_usize-2.ensures.0, c.four_code-w.ensures) (sym (ap (λ (z : List ℕ). get_or z 1 0) e))))

pub returns-then-w-as_usize-3 : goal.returns-then-w-as_usize-3
unfolding four_bytes
returns-then-w-as_usize-3 c = four_none _ (λ e. c.if-w-as_usize-3.true (rw (c.as_usize-3.ensures.0, c.four_code-w.ensures) (sym (ap (λ (z : List ℕ). get_or z 2 0) e))))

pub returns : goal.returns
returns c =
    four_last _ _ _ _ _ _ c.four_code-w.ensures
    c.if-w-ge1587600.false c.if-run-ne4.false c.as_usize.ensures.0 c.as_usize-2.ensures.0 c.as_usize-3.ensures.0 c.as_usize-4.ensures.0 c.if-w-as_usize.false
    c.if-w-as_usize-2.false c.if-w-as_usize-3.false
