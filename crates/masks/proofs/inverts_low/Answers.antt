-- `inverts_low` meets its contract. Assumes nothing.
use Rattle.masks.proofs.Rows.{low_one, low_two}
use Rattle.general.proofs.Names.{◌≡◌, arith}
use Rattle.masks.proofs.inverts_low.Goals as goal

pub returns-then-mask-eq1 : goal.returns-then-mask-eq1
returns-then-mask-eq1 c = low_one c.args.mask c.args.i c.args.c c.if-mask-eq1.true

pub returns : goal.returns
returns c = let m : c.args.mask ≡ 2 = omega arith in low_two c.args.mask c.args.i c.args.c m
