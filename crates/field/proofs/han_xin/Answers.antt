-- `field::han_xin` meets its contract: the table is computed anew and compared. Assumes nothing.
use Rattle.field.specs.Field.{times_alpha, powers, find, log}
use Rattle.field.specs.Table.{log_entry, table_of}
use Rattle.field.proofs.Entries.{field_of, poly_of_table}
use Rattle.field.proofs.Instances.{primitive_163}
use Rattle.general.specs.Lists.{each}
use Rattle.field.proofs.han_xin.Goals as goal

pub returns : goal.returns
unfolding table_of each log_entry log find powers times_alpha
returns c = (field_of 0x163 primitive_163, poly_of_table 0x163 primitive_163)
