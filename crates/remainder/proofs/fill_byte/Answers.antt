-- `fill_byte` meets its contract. Assumes nothing.
use Rattle.general.proofs.Names.{◌≡◌, ◌∙◌, ◌+◌, ◌*◌, arith}
use Rattle.remainder.proofs.Fill.{bytewise}
use Rattle.remainder.proofs.fill_byte.Goals as goal

pub fill_digit-next-requires : goal.fill_digit-next-requires
fill_digit-next-requires c =
    let e : 16 * (2 * c.args.k) ≡ 32 * c.args.k = omega arith in
    (omega arith, omega arith, rw e c.requires.2)

pub fill_digit-requires : goal.fill_digit-requires
fill_digit-requires c =
    let first = c.fill_digit-next.ensures in
    let e : 16 * (2 * c.args.k + 1) ≡ 32 * c.args.k + 16 = omega arith in
    (omega arith, omega arith, rw e (first.above _ (omega arith) ∙ c.requires.3))

pub returns : goal.returns
returns c = bytewise _ _ _ _ _ _ _ c.requires.1 c.fill_digit-next.ensures c.fill_digit.ensures
