-- `any_unknown` meets its contract. Assumes nothing.
use Rattle.general.proofs.Names.{◌≡◌, get_or, arith, dec_lt, ltb-false, and_le_r}
use lib.Bits.{and_le_l, or_add_and}
use Rattle.flags.proofs.any_unknown.Goals as goal

pub loop-i-init : goal.loop-i-init
loop-i-init c = λ k a b. absurd (omega arith)

pub loop-i-preserved : goal.loop-i-preserved
loop-i-preserved c =
    let here = get_or c.args.square.now c.loop-i.i 0 in
    λ k a b. elim (dec_lt k c.loop-i.i) [
      | yes l ↦ omega (arith, c.loop-i.invariant k a l, or_add_and c.loop-i.seen here, and_le_r c.loop-i.seen here)
      | no l ↦ let e : k ≡ c.loop-i.i = omega arith in rw e (omega (arith, or_add_and c.loop-i.seen here, and_le_l c.loop-i.seen here))
    ]

pub returns : goal.returns
returns c = record { none = λ e k a b. omega (arith, c.loop-i.invariant k a (omega arith), ltb-false 1 c.loop-i.seen e) }
