-- `power_entry` meets its contract. Assumes nothing.
use Rattle.general.proofs.Names.{arith}
use Rattle.field.proofs.Entries.{entry_lt}
use Rattle.field.proofs.power_entry.Goals as goal

pub overflow_cast-result : goal.overflow_cast-result
overflow_cast-result c = omega (arith, entry_lt c.args.field.now c.requires.field c.args.n c.requires.n_bound)
