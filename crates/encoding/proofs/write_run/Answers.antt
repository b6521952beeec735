-- `write_run` meets its contract. Assumes nothing.
use Rattle.bits.proofs.Words.{length_low}
use Rattle.general.proofs.Names.{◌≡◌, sym, ◌∙◌, ◌++◌, ◌+◌, ◌*◌, ◌≤◌, arith, length}
use Rattle.bits.specs.Bits.{low_bits, word_bits}
use Rattle.script.specs.Writer.{numeric_words, mode_has, mode_bits}
use Rattle.script.specs.Characters.{words_of, has_all, width_of, begins_in}
use Rattle.encoding.proofs.WordsLeft.{written_both}
use Rattle.encoding.proofs.Runs.{first_room, rest_room, word_length, numeric_bits, bytes_bits, four_bits, four_whole, char_bits}
use Rattle.encoding.proofs.write_run.Goals as goal
use Rattle.encoding.proofs.write_run.Goals.{After-put-at, Else-mode-eq-FOUR_BYTE, Then-mode-eq-BYTES}

-- room behind the mode
room : (c : After-put-at) →
    c.put-at.result + length (mode_bits c.args.mode c.args.chars.now) ≤ 8 * length c.put-at.new.buf
room c = let k = c.put-at.auto.buf in
    rw k (rest_room (mode_bits c.args.mode c.args.chars.now) (8 * length c.args.buf.now) c.put-at.ensures c.requires.4)

-- the bits of bytes
bytes : (c : Then-mode-eq-BYTES) →
    mode_bits c.args.mode c.args.chars.now ≡ low_bits 13 (length c.args.chars.now) ++ word_bits 8 c.args.chars.now
bytes c = bytes_bits c.args.mode c.args.chars.now c.if-mode-eq-BYTES.true

-- the other modes are those of characters
chars : (c : Else-mode-eq-FOUR_BYTE) →
    (mode_bits c.args.mode c.args.chars.now ≡ word_bits (width_of c.args.mode) (words_of c.args.mode (begins_in c.args.mode) c.args.chars.now))
    × (mode_has c.args.mode c.args.chars.now ≡ has_all c.args.mode c.args.chars.now)
chars c = char_bits c.args.mode c.args.chars.now c.requires.1 c.requires.2 c.if-mode-eq-NUMERIC.false c.if-mode-eq-BYTES.false c.if-mode-eq-FOUR_BYTE.false

pub put-at-requires : goal.put-at-requires
put-at-requires c = (omega arith, first_room 4 c.args.mode c.args.from (8 * length c.args.buf.now) (mode_bits c.args.mode c.args.chars.now) c.requires.4, omega arith)

pub write_numeric-requires : goal.write_numeric-requires
write_numeric-requires c =
    let r = rw (numeric_bits c.args.mode c.args.chars.now c.if-mode-eq-NUMERIC.true) at (room (goal.at.write_numeric-requires c).After-put-at) in
    (omega arith, word_length 10 (numeric_words c.args.chars.now) c.put-at.result (8 * length c.put-at.new.buf) r)

pub returns-then-mode-eq-NUMERIC : goal.returns-then-mode-eq-NUMERIC
returns-then-mode-eq-NUMERIC c = rw (numeric_bits c.args.mode c.args.chars.now c.if-mode-eq-NUMERIC.true) (written_both c.put-at.ensures c.write_numeric.ensures)

pub put-next-requires : goal.put-next-requires
put-next-requires c = (
  omega arith,
  first_room 13 (length c.args.chars.now) c.put-at.result (8 * length c.put-at.new.buf) (word_bits 8 c.args.chars.now)
      (rw (bytes (goal.at.put-next-requires c).Then-mode-eq-BYTES) at (room (goal.at.put-next-requires c).After-put-at)),
  omega arith,
)

pub write_bytes-requires : goal.write_bytes-requires
write_bytes-requires c =
    let m = c.put-next.auto.buf in
    let t = rest_room (word_bits 8 c.args.chars.now) (8 * length c.put-at.new.buf) c.put-next.ensures (rw (bytes (goal.at.write_bytes-requires c).Then-mode-eq-BYTES) at (room (goal.at.write_bytes-requires c).After-put-at)) in
    (omega arith, rw m (word_length 8 c.args.chars.now c.put-next.result (8 * length c.put-at.new.buf) t))

pub returns-then-mode-eq-BYTES : goal.returns-then-mode-eq-BYTES
returns-then-mode-eq-BYTES c = rw (bytes (goal.at.returns-then-mode-eq-BYTES c).Then-mode-eq-BYTES) (written_both c.put-at.ensures (written_both c.put-next.ensures c.write_bytes.ensures))

pub four_code-requires : goal.four_code-requires
four_code-requires c = four_whole c.args.mode c.args.chars.now c.if-mode-eq-FOUR_BYTE.true c.requires.3

pub put-requires : goal.put-requires
put-requires c =
    let r = rw (four_bits c.args.mode c.args.chars.now c.if-mode-eq-FOUR_BYTE.true, length_low) at (room (goal.at.put-requires c).After-put-at) in
    (omega arith, omega arith, omega arith)

pub returns-then-mode-eq-FOUR_BYTE : goal.returns-then-mode-eq-FOUR_BYTE
returns-then-mode-eq-FOUR_BYTE c =
    rw (four_bits c.args.mode c.args.chars.now c.if-mode-eq-FOUR_BYTE.true)
    (written_both c.put-at.ensures (rw c.four_code.ensures at c.put.ensures))

pub write_chars-requires : goal.write_chars-requires
write_chars-requires c =
    let e = chars (goal.at.write_chars-requires c).Else-mode-eq-FOUR_BYTE in
    let r = rw e.0 at (room (goal.at.write_chars-requires c).After-put-at) in (
      omega arith,
      sym e.1 ∙ c.requires.3,
      word_length (width_of c.args.mode) (words_of c.args.mode (begins_in c.args.mode) c.args.chars.now) c.put-at.result
          (8 * length c.put-at.new.buf) r,
    )

pub returns : goal.returns
returns c = rw (chars (goal.at.returns c).Else-mode-eq-FOUR_BYTE).0 (written_both c.put-at.ensures c.write_chars.ensures)
