-- `byte_at` meets its contract. Assumes nothing.
use Rattle.general.proofs.Names.{ap, ℕ, ◌-◌, ◌*◌, ◌/◌, ◌%◌, ◌^◌}
use Rattle.remainder.proofs.four_words.byte_at.Goals as goal

pub returns : goal.returns
returns c = ap (λ (w : ℕ). w / 2 ^ (56 - 8 * (c.args.i % 8)) % 256) c.word_at.ensures
