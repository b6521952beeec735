-- `write_eci` meets its contract. Assumes nothing.
-- room behind the mode
use Rattle.general.proofs.Names.{◌+◌, ◌*◌, ◌≤◌, arith, length}
use Rattle.bits.proofs.Words.{length_low}
use Rattle.script.specs.Writer.{eci_bits}
use Rattle.encoding.proofs.WordsLeft.{written_both}
use Rattle.encoding.proofs.Runs.{first_room, rest_room, eci_7, eci_14, eci_21}
use Rattle.encoding.proofs.write_eci.Goals as goal
use Rattle.encoding.proofs.write_eci.Goals.{After-put-at}

room : (c : After-put-at) → c.put-at.result + length (eci_bits c.args.v) ≤ 8 * length c.args.buf.now
room c = rest_room _ _ c.put-at.ensures c.requires.1

pub put-at-requires : goal.put-at-requires
put-at-requires c = (omega arith, first_room 4 8 _ _ _ c.requires.1, omega arith)

pub put-requires : goal.put-requires
put-requires c =
    let v = c.args.v in
    let r = rw (eci_7 v (omega arith), length_low) at (room (goal.at.put-requires c).After-put-at) in
    (omega arith, omega arith, omega arith)

pub returns-then-v-lt128 : goal.returns-then-v-lt128
returns-then-v-lt128 c = rw (eci_7 _ c.if-v-lt128.true) (written_both c.put-at.ensures c.put.ensures)

pub put-requires-then-v-lt16384 : goal.put-requires-then-v-lt16384
put-requires-then-v-lt16384 c =
    let v = c.args.v in
    let r = rw (eci_14 v (omega arith) c.if-v-lt16384.true, length_low) at (room (goal.at.put-requires-then-v-lt16384 c).After-put-at) in
    (omega arith, omega arith, omega arith)

pub returns-then-v-lt16384 : goal.returns-then-v-lt16384
returns-then-v-lt16384 c = rw (eci_14 _ (omega arith) c.if-v-lt16384.true) (written_both c.put-at.ensures c.put-then-v-lt16384.ensures)

pub put-requires-2 : goal.put-requires-2
put-requires-2 c =
    let v = c.args.v in
    let r = rw (eci_21 v (omega arith) c.if-v-lt16384.false, length_low) at (room (goal.at.put-requires-2 c).After-put-at) in
    (omega arith, omega arith, omega arith)

pub returns : goal.returns
returns c = rw (eci_21 _ (omega arith) c.if-v-lt16384.false) (written_both c.put-at.ensures c.put-2.ensures)
