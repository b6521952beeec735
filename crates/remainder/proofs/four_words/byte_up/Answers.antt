-- `byte_up` meets its contract. Assumes nothing.
use Rattle.general.proofs.Names.{ap, ℕ, ◌+◌, ◌/◌, ◌^◌, arith}
use Rattle.remainder.proofs.Places.{shifted, shifted_lt}
use Rattle.remainder.proofs.four_words.byte_up.Goals as goal

pub overflow_add-result : goal.overflow_add-result
overflow_add-result c = record { fits = shifted_lt 56 8 _ _ (omega arith) }

pub returns : goal.returns
returns c = ap (λ (y : ℕ). y + c.args.b / 2 ^ 56) (shifted 56 8 c.args.a)
