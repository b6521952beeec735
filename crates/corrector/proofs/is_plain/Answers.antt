-- `is_plain` meets its contract. Assumes nothing.
use Rattle.general.proofs.Names.{true≢false, mul-le-mul_left, arith}
use Rattle.corrector.proofs.is_plain.Goals as goal

pub returns-then-is_untabled : goal.returns-then-is_untabled
returns-then-is_untabled c = λ e. absurd (true≢false e)

pub overflow_mul-result : goal.overflow_mul-result
overflow_mul-result c = let fits = c.is_untabled.ensures c.if-is_untabled.false in omega (arith, mul-le-mul_left c.args.n fits.0.1)

pub returns : goal.returns
returns c = λ e. c.is_untabled.ensures c.if-is_untabled.false
