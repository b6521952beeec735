-- `half_up` meets its contract. Assumes nothing.
use Rattle.general.proofs.Names.{ap, ℕ, ◌+◌, ◌/◌, ◌^◌, arith}
use Rattle.remainder.proofs.Places.{shifted, shifted_lt}
use Rattle.remainder.proofs.four_words.half_up.Goals as goal

pub overflow_add-result : goal.overflow_add-result
overflow_add-result c = record { fits = shifted_lt 32 32 _ _ (omega arith) }

pub returns : goal.returns
returns c = ap (λ (y : ℕ). y + c.args.b / 2 ^ 32) (shifted 32 32 c.args.a)
