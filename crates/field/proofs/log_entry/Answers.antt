-- `log_entry` meets its contract. Assumes nothing.
use Rattle.general.proofs.Names.{arith, rules}
use Rattle.field.proofs.Entries.{log_le, log_pos}
use Rattle.field.proofs.log_entry.Goals as goal

pub overflow_cast-result : goal.overflow_cast-result
overflow_cast-result c = omega (arith, log_le c.args.field.now c.requires c.args.a (search rules))

pub returns : goal.returns
returns c = (
  search rules,
  omega (arith, log_le c.args.field.now c.requires c.args.a (search rules)),
  λ p. (log_pos
      c.args.field.now c.requires c.args.a p (search rules)).1,
)
