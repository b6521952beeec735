-- `total_codewords` meets its contract. Assumes nothing.
use Rattle.general.proofs.Names.{arith, rules}
use Rattle.block_table.proofs.Rows.{total_small}
use Rattle.block_table.specs.Blocks.{total_of}
use Rattle.block_table.specs.Table.{totals}
use Rattle.block_table.proofs.total_codewords.Goals as goal

pub overflow_cast-result : goal.overflow_cast-result
unfolding totals total_of
overflow_cast-result c = omega (arith, total_small c.args.version c.requires.0 c.requires.1)

pub returns : goal.returns
unfolding totals total_of
returns c = (search rules, total_small c.args.version c.requires.0 c.requires.1)
