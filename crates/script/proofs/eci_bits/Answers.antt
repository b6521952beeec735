-- `eci_bits` meets its contract. Assumes nothing.
use Rattle.general.proofs.Names.{arith, lt-ltb, le-ltb}
use Rattle.script.specs.Lengths.{eci_length}
use Rattle.script.proofs.eci_bits.Goals as goal

pub returns-then-v-lt128 : goal.returns-then-v-lt128
unfolding eci_length
returns-then-v-lt128 c = (rw (lt-ltb c.args.v 128 c.if-v-lt128.true), omega arith)

pub returns-then-v-lt16384 : goal.returns-then-v-lt16384
unfolding eci_length
returns-then-v-lt16384 c = (rw (le-ltb c.args.v 128 c.if-v-lt128.false, lt-ltb c.args.v 16384 c.if-v-lt16384.true), omega arith)

pub returns : goal.returns
unfolding eci_length
returns c = (rw (le-ltb c.args.v 128 c.if-v-lt128.false, le-ltb c.args.v 16384 c.if-v-lt16384.false), omega arith)
