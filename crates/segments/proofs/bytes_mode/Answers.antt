-- `bytes_mode` meets its contract. Assumes nothing.
use Rattle.general.proofs.Names.{refl, arith}
use Rattle.bits.proofs.Words.{WordAt, word_read, word_few}
use Rattle.segments.proofs.Turns.{bytes_cut, bytes_length, longer_inside}
use Rattle.segments.proofs.bytes_mode.Goals as goal
use Rattle.segments.proofs.bytes_mode.Goals.{In-Value}

-- what was read, where a word was read
word : (c : In-Value) → WordAt 13 c.args.from c.in-Value.k c.args.s.now
word c = word_read 13 c.args.from c.args.s.now c.read_bits-got.result c.read_bits-got.ensures c.in-Value.k (omega arith) (omega arith) c.in-Value.is

pub returns-in_default : goal.returns-in_default
returns-in_default c = record {
  left = rw (bytes_cut c.args.s.now c.args.from c.args.to c.args.out.now (word_few 13 c.args.from c.args.s.now c.read_bits-got.result c.read_bits-got.ensures
      c.in_default.is)) refl;
  inside = tt;
}

pub bytes_run-requires : goal.bytes_run-requires
bytes_run-requires c = let m = (word (goal.at.bytes_run-requires c).In-Value).room in (omega arith, omega arith, omega arith)

pub returns : goal.returns
returns c = record {
  left = rw (bytes_length c.args.s.now c.args.from c.args.to c.args.out.now c.in-Value.k (word (goal.at.returns c).In-Value)) c.bytes_run.ensures.left;
  inside = longer_inside c.args.s.now
      c.args.from c.args.to 13 c.bytes_run.result c.bytes_run.ensures.inside;
}
