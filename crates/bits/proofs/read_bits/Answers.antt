-- `read_bits` meets its contract. Assumes nothing.
use Rattle.general.proofs.Names.{arith}
use lib.Pow.{pow_pos}
use Rattle.bits.proofs.Reading.{read_short}
use Rattle.bits.proofs.Window.{window_four, one_shifted, read_four}
use Rattle.bits.proofs.read_bits.Goals as goal

pub overflow_mul-v : goal.overflow_mul-v
overflow_mul-v c = omega arith

pub overflow_add-v : goal.overflow_add-v
overflow_add-v c = omega arith

pub overflow_mul-v-then-s-i-ge4 : goal.overflow_mul-v-then-s-i-ge4
overflow_mul-v-then-s-i-ge4 c = omega arith

pub overflow_add-v-then-s-i-ge4 : goal.overflow_add-v-then-s-i-ge4
overflow_add-v-then-s-i-ge4 c = omega arith

pub overflow_mul-v-then-s-i-ge4-2 : goal.overflow_mul-v-then-s-i-ge4-2
overflow_mul-v-then-s-i-ge4-2 c = omega arith

pub overflow_add-v-then-s-i-ge4-2 : goal.overflow_add-v-then-s-i-ge4-2
overflow_add-v-then-s-i-ge4-2 c = omega arith

pub nonzero_rem-result-then-s-i-ge4 : goal.nonzero_rem-result-then-s-i-ge4
nonzero_rem-result-then-s-i-ge4 c = rw (one_shifted c.args.n (omega arith)) (pow_pos c.args.n)

pub returns-then-s-i-ge4 : goal.returns-then-s-i-ge4
returns-then-s-i-ge4 c =
    read_four _ _ _ _ (omega arith) (omega arith)
    (window_four _ _ _ _ _ _ (omega arith)
    (c.as_usize.ensures.1, c.as_usize-then-s-i-ge4.ensures.1, c.as_usize-then-s-i-ge4-2.ensures.1, c.as_usize-then-s-i-ge4-3.ensures.1) c.as_usize.ensures.0 c.as_usize-then-s-i-ge4.ensures.0
    c.as_usize-then-s-i-ge4-2.ensures.0 c.as_usize-then-s-i-ge4-3.ensures.0)

pub returns-then-s-at : goal.returns-then-s-at
returns-then-s-at c = read_short c.args.s.now c.args.at c.args.n (omega arith) (omega arith)
