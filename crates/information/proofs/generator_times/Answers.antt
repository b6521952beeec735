-- `generator_times` meets its contract. Assumes nothing.
use Rattle.information.specs.Information.{generator_times}
use Rattle.information.proofs.generator_times.Goals as goal

pub returns : goal.returns
unfolding generator_times
returns c = rw (← c.gf16_mul.ensures.0, ← c.gf16_mul-2.ensures.0, ← c.gf16_mul-3.ensures.0, ← c.gf16_mul-4.ensures.0)
