-- `lowest` meets its contract. Assumes nothing.
use Rattle.small_marks.proofs.Narrow.{two_power}
use Rattle.general.proofs.Names.{ap, ℕ, ◌%◌, arith}
use lib.Pow.{pow_pos}
use Rattle.small_marks.proofs.lowest.Goals as goal

pub nonzero_rem-result : goal.nonzero_rem-result
nonzero_rem-result c = omega (arith, two_power c.args.w c.requires, pow_pos c.args.w)

pub returns : goal.returns
returns c = ap (λ (m : ℕ). c.args.bits % m) (two_power c.args.w c.requires)
