-- `masked` meets its contract. Assumes nothing.
use Rattle.general.proofs.Names.{mod-lt, arith}
use Rattle.codewords.proofs.Masks.{mask_zero, mask_one, mask_two, mask_three}
use Rattle.codewords.proofs.masked.Goals as goal

pub returns-then-mask-eq0 : goal.returns-then-mask-eq0
returns-then-mask-eq0 c = (mask_zero c.args.mask c.args.i c.args.j (omega arith), omega arith)

pub returns-then-mask-eq1 : goal.returns-then-mask-eq1
returns-then-mask-eq1 c = (mask_one c.args.mask c.args.i c.args.j (omega arith), omega arith)

pub returns-then-mask-eq2 : goal.returns-then-mask-eq2
returns-then-mask-eq2 c = (mask_two c.args.mask c.args.i c.args.j (omega arith), omega arith)

pub overflow_add-result-2 : goal.overflow_add-result-2
overflow_add-result-2 c = omega (arith, mod-lt c.args.i {m = c.args.j} (omega arith), mod-lt c.args.j {m = c.args.i} (omega arith))

pub overflow_add-result-3 : goal.overflow_add-result-3
overflow_add-result-3 c = omega (arith, mod-lt c.args.i {m = c.args.j} (omega arith), mod-lt c.args.j {m = c.args.i} (omega arith))

pub overflow_add-result-4 : goal.overflow_add-result-4
overflow_add-result-4 c = omega (arith, mod-lt c.args.i {m = c.args.j} (omega arith), mod-lt c.args.j {m = c.args.i} (omega arith))

pub returns : goal.returns
returns c = (mask_three c.args.mask c.args.i c.args.j (omega arith) (omega arith) (omega arith), omega arith)
