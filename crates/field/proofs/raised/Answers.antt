-- `raised` meets its contract. Assumes nothing.
use Rattle.general.proofs.Names.{◌∙◌, ap, ℕ, ◌+◌, get_or, rules}
use Rattle.field.proofs.Entries.{scaled_at}
use Rattle.field.proofs.raised.Goals as goal

pub returns : goal.returns
returns c = c.power_entry.ensures
    ∙ ap (λ (x : ℕ). get_or c.args.field.now (256 + (x + c.args.n)) 0) c.log_entry.ensures.0
    ∙ scaled_at c.args.field.now c.requires.field c.args.a c.args.n
    (search rules) c.requires.n_bound
