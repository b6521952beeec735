-- `distance` meets its contract. Assumes nothing.
use Rattle.general.proofs.Names.{bit_xor, xor_lt, ℕ, ◌^◌, ◌<◌, ◌≤◌, refl, arith}
use lib.Count.{ones, ones-le}
use Rattle.information.proofs.distance.Goals as goal

few : {a b : ℕ} → a < 2 ^ 64 → b < 2 ^ 64 → ones (bit_xor a b) ≤ 64
few {a} {b} h g = ones-le 64 (bit_xor a b) (xor_lt 64 a b h g)

pub overflow_add-result : goal.overflow_add-result
overflow_add-result c = omega (arith, few c.ranges.word.fits c.ranges.first.fits, few c.ranges.word.fits c.ranges.second.fits)

pub returns : goal.returns
returns c = (refl, omega (arith, few c.ranges.word.fits c.ranges.first.fits, few c.ranges.word.fits c.ranges.second.fits))
