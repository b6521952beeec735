-- `run_bits` meets its contract. Assumes nothing.
use Rattle.general.proofs.Names.{sym, ◌∙◌, arith}
use Rattle.script.proofs.Runs.{numeric_takes, numeric_lacks, bytes_takes, four_takes, four_lacks, char_cost_lem}
use Rattle.script.proofs.run_bits.Goals as goal

pub returns-then-all_digits : goal.returns-then-all_digits
returns-then-all_digits c = (numeric_takes _ c.args.mode c.if-mode-eq-NUMERIC.true (sym c.all_digits.ensures ∙ c.if-all_digits.true), omega arith)

pub returns-then-mode-eq-NUMERIC : goal.returns-then-mode-eq-NUMERIC
returns-then-mode-eq-NUMERIC c = (numeric_lacks _ c.args.mode c.if-mode-eq-NUMERIC.true (sym c.all_digits.ensures ∙ c.if-all_digits.false), tt)

pub returns-then-mode-eq-BYTES : goal.returns-then-mode-eq-BYTES
returns-then-mode-eq-BYTES c = (bytes_takes _ c.args.mode c.if-mode-eq-BYTES.true (λ i. omega (arith, c.type_inv.run i)), omega arith)

pub returns-then-in_four : goal.returns-then-in_four
returns-then-in_four c = (four_takes _ c.args.mode c.if-mode-eq-FOUR_BYTE.true (sym c.in_four.ensures ∙ c.if-in_four.true), omega arith)

pub returns-then-mode-eq-FOUR_BYTE : goal.returns-then-mode-eq-FOUR_BYTE
returns-then-mode-eq-FOUR_BYTE c = (four_lacks _ c.args.mode c.if-mode-eq-FOUR_BYTE.true (sym c.in_four.ensures ∙ c.if-in_four.false), tt)

pub returns : goal.returns
returns c = (
  c.char_bits.ensures.0 ∙ char_cost_lem _ c.args.mode (omega arith) (omega arith) c.if-mode-eq-NUMERIC.false
      c.if-mode-eq-BYTES.false c.if-mode-eq-FOUR_BYTE.false,
  c.char_bits.ensures.1,
)
