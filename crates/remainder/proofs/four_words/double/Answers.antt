-- `double` meets its contract. Assumes nothing.
use Rattle.general.proofs.Names.{◌/◌, arith, and_le_r}
use Rattle.remainder.proofs.Alpha.{sevens, ones, in_one_go}
use Rattle.remainder.proofs.four_words.double.Goals as goal

pub overflow_mul-result : goal.overflow_mul-result
unfolding ones sevens
overflow_mul-result c = omega (arith, and_le_r c.args.w 9187201950435737471)

pub overflow_mul-result-2 : goal.overflow_mul-result-2
unfolding ones sevens
overflow_mul-result-2 c = omega (arith, and_le_r (c.args.w / 128) 72340172838076673)

pub returns : goal.returns
unfolding ones sevens
returns c = in_one_go 99 (omega arith) 8 _
