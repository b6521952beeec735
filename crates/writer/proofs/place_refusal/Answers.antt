-- `place_refusal` meets its contract: 1 for too few data modules, 2 for another size, else 0. Assumes nothing.
use Rattle.general.proofs.Names.{ap, ℕ, ◌*◌, arith}
use Rattle.writer.proofs.Starts.{square_small}
use Rattle.writer.proofs.Refusals.{too_few, wrong_size, right_size}
use Rattle.writer.proofs.place_refusal.Goals as goal

pub overflow_mul-side : goal.overflow_mul-side
overflow_mul-side c = omega (arith, square_small _ _ c.requires.valid.high c.side-side.ensures)

pub data_modules-requires : goal.data_modules-requires
data_modules-requires c = omega (arith, ap (λ (n : ℕ). n * n) c.side-side.ensures, c.requires.long)

pub returns-then-data_modules-total : goal.returns-then-data_modules-total
returns-then-data_modules-total c =
    too_few _ _ c.requires c.args.size _ _ _ c.side-side.ensures c.total_codewords-total.ensures.0
    c.data_modules.ensures c.if-data_modules-total.true

pub overflow_mul-side-2 : goal.overflow_mul-side-2
overflow_mul-side-2 c = omega (arith, square_small _ _ c.requires.valid.high c.side-side.ensures)

pub returns-then-size-side : goal.returns-then-size-side
returns-then-size-side c =
    wrong_size _ _ c.requires c.args.size _ _ _ c.side-side.ensures c.total_codewords-total.ensures.0
    c.data_modules.ensures (omega (arith, c.if-data_modules-total.false)) c.if-size-side.true

pub returns : goal.returns
returns c =
    right_size _ _ c.requires c.args.size _ _ _ c.side-side.ensures c.total_codewords-total.ensures.0
    c.data_modules.ensures (omega (arith, c.if-data_modules-total.false)) c.if-size-side.false
