-- `store_four` meets its contract. Assumes nothing.
use Rattle.general.proofs.Names.{◌≡◌, suc, ◌+◌, arith, length-set}
use Rattle.bits.specs.Four.{four_of}
use Rattle.bits.proofs.store_four.Goals as goal

pub bounds-buf-i-2 : goal.bounds-buf-i-2
bounds-buf-i-2 c = simp length-set (omega arith)

pub bounds-buf-i-3 : goal.bounds-buf-i-3
bounds-buf-i-3 c = simp length-set (omega arith)

pub bounds-buf-i-4 : goal.bounds-buf-i-4
bounds-buf-i-4 c = simp length-set (omega arith)

pub returns : goal.returns
unfolding four_of
returns c = let i = c.args.i in
    let one : i + 1 ≡ suc i = omega arith in
    let two : i + 2 ≡ suc (suc i) = omega arith in
    let three : i + 3 ≡ suc (suc (suc i)) = omega arith in
    rw (one, two, three)
