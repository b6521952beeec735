-- `mul` meets its contract. Assumes nothing.
use Rattle.general.proofs.Names.{◌∙◌, ap₂, ℕ, ◌+◌, get_or, rules}
use Rattle.field.proofs.Entries.{product_at}
use Rattle.field.proofs.mul.Goals as goal

pub returns : goal.returns
returns c = c.power_entry.ensures
    ∙ ap₂ (λ (x y : ℕ). get_or c.args.field.now (256 + (x + y)) 0)
    c.log_entry.ensures.0 c.log_entry-2.ensures.0
    ∙ product_at c.args.field.now c.requires c.args.a
    c.args.b (search rules) (search rules)
