-- `section` meets its contract. Assumes nothing.
use Rattle.masks.proofs.Rows.{repeat_one, repeat_two}
use Rattle.general.proofs.Names.{◌≡◌, arith}
use Rattle.masks.proofs.section.Goals as goal

pub returns-then-mask-eq1 : goal.returns-then-mask-eq1
returns-then-mask-eq1 c = (omega arith, λ j. repeat_one c.args.mask c.args.i j c.if-mask-eq1.true)

pub returns : goal.returns
returns c = let m : c.args.mask ≡ 2 = omega arith in (omega arith, λ j. repeat_two c.args.mask c.args.i j m)
