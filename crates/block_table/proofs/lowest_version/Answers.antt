-- `lowest_version` meets its contract: the table has the data codewords of each row. Assumes nothing.
use Rattle.general.proofs.Names.{◌∙◌}
use Rattle.block_table.specs.Table.{blocks}
use Rattle.block_table.specs.Blocks.{shapes, batch, total_data}
use Rattle.block_table.proofs.Rows.{rooms_from, search_alike}
use Rattle.block_table.proofs.lowest_version.Goals as goal

pub returns : goal.returns
unfolding blocks rooms_from shapes batch total_data
returns c = c.lowest_in.ensures ∙ search_alike c.args.level c.args.bits c.args.from c.requires.0 c.requires.1 c.requires.2
