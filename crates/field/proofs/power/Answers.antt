-- `power` meets its contract. Assumes nothing.
use Rattle.general.proofs.Names.{◌∙◌}
use Rattle.field.proofs.Entries.{power_at}
use Rattle.field.proofs.power.Goals as goal

pub returns : goal.returns
returns c = c.power_entry.ensures ∙ power_at c.args.field.now c.requires.field c.args.n c.requires.n_bound
