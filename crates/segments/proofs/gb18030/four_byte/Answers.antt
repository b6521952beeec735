-- `four_byte` meets its contract. Assumes nothing.
use Rattle.general.proofs.Names.{refl, arith}
use Rattle.bits.proofs.Words.{WordAt, word_read, word_few}
use Rattle.segments.proofs.Turns.{four_cut, four_lacks, four_end}
use Rattle.segments.proofs.gb18030.four_byte.Goals as goal
use Rattle.segments.proofs.gb18030.four_byte.Goals.{In-Value}

-- what was read, where a word was read
word : (c : In-Value) → WordAt 21 c.args.from c.in-Value.w c.args.s.now
word c = word_read 21 _ c.args.s.now _ c.read_bits-got.ensures c.in-Value.w (omega arith) (omega arith) c.in-Value.is

pub returns-in_default : goal.returns-in_default
returns-in_default c = record {
  left = rw (four_cut c.args.s.now c.args.from c.args.to _ (word_few 21 c.args.from _ c.read_bits-got.result c.read_bits-got.ensures
      c.in_default.is)) refl;
  inside = tt;
}

pub returns-then-w-ge1587600 : goal.returns-then-w-ge1587600
returns-then-w-ge1587600 c = record { left = rw (four_lacks c.args.s.now c.args.from c.args.to _ c.in-Value.w (word (goal.at.returns-then-w-ge1587600 c).In-Value) c.if-w-ge1587600.true) refl; inside = tt }

pub returns : goal.returns
returns c = let m = (word (goal.at.returns c).In-Value).room in record {
  left = rw (four_end c.args.s.now c.args.from c.args.to _ c.in-Value.w (word (goal.at.returns c).In-Value) c.if-w-ge1587600.false)
      (refl, c.put_four.ensures);
  inside = (omega arith, omega arith, omega arith, omega arith);
}
