-- `write_bits` meets its contract. Assumes nothing.
use Rattle.general.proofs.Names.{◌≡◌, ◌-◌, ◌%◌, mod-le, arith, length}
use lib.Pow.{pow_pos}
use Rattle.bits.specs.Bits.{bits_of, low_bits}
use Rattle.bits.proofs.Reading.{length_bits}
use Rattle.bits.proofs.Words.{length_low}
use Rattle.bits.proofs.Window.{one_shifted}
use Rattle.bits.proofs.Appending.{Joins, joined_is, appended, behind_set}
use Rattle.bits.proofs.write_bits.Goals as goal
use Rattle.bits.proofs.write_bits.Goals.{After-store_four-arg-1}

-- what is stored
joins : (c : After-store_four-arg-1) → Joins c.as_usize-old.result (c.args.at % 8)
    c.args.n c.args.v
joins c = joined_is _ _ _ _ c.as_usize-old.ensures.1 (omega arith) (omega arith)

pub returns-then-buf-i-lt4 : goal.returns-then-buf-i-lt4
returns-then-buf-i-lt4 c =
    let b = bits_of c.args.buf.now in
    let e = length_bits c.args.buf.now in
    let w : length (low_bits c.args.n c.args.v) ≡ c.args.n = length_low c.args.n c.args.v in
    rw c.write_last.ensures (rw w at (behind_set b c.args.at (low_bits c.args.n c.args.v) (rw (w, e) (omega arith))))

pub nonzero_rem-before : goal.nonzero_rem-before
nonzero_rem-before c = rw (one_shifted (8 - c.args.at % 8) (omega arith)) (pow_pos (8 - c.args.at % 8))

pub overflow_sub-before-2 : goal.overflow_sub-before-2
overflow_sub-before-2 c = mod-le _ _

pub nonzero_rem-v : goal.nonzero_rem-v
nonzero_rem-v c = rw (one_shifted c.args.n (omega arith)) (pow_pos c.args.n)

pub overflow_add-before : goal.overflow_add-before
overflow_add-before c = let j = joins (goal.at.overflow_add-before c).After-store_four-arg-1 in rw j.0 (omega arith)

pub store_four-requires : goal.store_four-requires
store_four-requires c = let j = joins (goal.at.store_four-requires c).After-store_four-arg-1 in (omega arith, rw j.0 j.1)

pub returns : goal.returns
returns c =
    let j = joins (goal.at.returns c).After-store_four-arg-1 in
    rw (c.store_four.ensures, j.0, c.as_usize-old.ensures.0) (appended c.args.buf.now c.args.at c.args.n c.args.v (omega arith) (omega arith))
