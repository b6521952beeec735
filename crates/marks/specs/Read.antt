-- SPECIFICATION 10.9 and 10.10: Read a square, and Read with known version, level, mask. The first refusal that applies is given, each
-- tested over the whole input.
use Rattle.std.specs.Prelude.{Bool, true, false, cond, List, [], ◌∷◌, map, ℕ, ◌*◌, leb, eqb, length}
use Rattle.general.specs.Lists.{all}
use Rattle.symbol.specs.Version.{side_of, is_side, side_version}
use Rattle.symbol.specs.Layout.{layout_of}
use Rattle.information.specs.Information.{is_info, copy_of, NearestAnswer, nearest_of}
use Rattle.block_table.specs.Blocks.{total_of, shapes_of, has_blocks, cut, data_parts}
use Rattle.codewords.specs.Codewords.{mask_bit, data_bits, to_stream}
use Rattle.blocks.specs.Blockwise.{outcomes, first_refused, count_of, blocks_of}
use Rattle.segments.specs.FromData.{DataOutcome, from_data}
use Rattle.marks.specs.Receipt.{receipt_of, refusal_receipt}
use Rattle.bits.specs.Bits.{first_words}

-- what a reading gives: the refusal number or 0, and what receipt, payload and script hold afterwards
pub record Reading : Type 0 where
  pub number : ℕ
  pub receipt : List ℕ
  pub payload : List ℕ
  pub script : List ℕ

-- what a call that returns n leaves: receipt r, payload p, script s
abbrev pub reading_of : ℕ → List ℕ → List ℕ → List ℕ → Reading
reading_of n r p s = record { number = n; receipt = r; payload = p; script = s }

-- a refusal leaves payload and script, and its number is in the receipt
unfoldable pub refused : ℕ → List ℕ → List ℕ → Reading
refused n p s = reading_of n (refusal_receipt n) p s

-- the first of some numbers that is not 0, or 0
unfoldable pub first_refusal : List ℕ → ℕ
first_refusal [] = 0
first_refusal (n ∷ ns) = cond (eqb n 0) (first_refusal ns) n

-- a number where a test fails
abbrev pub unless : Bool → ℕ → ℕ
unless test n = cond test 0 n

-- a module as a bit: 1 is dark, all else is light, unknown modules too
abbrev pub module_bit : ℕ → ℕ
module_bit m = cond (eqb m 1) 1 0

-- 1 where a module is unknown
abbrev pub unknown_bit : ℕ → ℕ
unknown_bit m = cond (eqb m 2) 1 0

-- the nearest level and mask of a square of version v, and their distance
unfoldable pub nearest_in : ℕ → List ℕ → NearestAnswer
nearest_in v sq = nearest_of v (copy_of (side_of v) false (map module_bit sq)) (copy_of (side_of v) true (map module_bit sq))

-- the stream of a square of version v under a mask
unfoldable pub stream_from : ℕ → ℕ → List ℕ → List ℕ
stream_from v mask sq = to_stream (first_words 8 (total_of v) (data_bits (mask_bit (side_of v) mask) 0 (layout_of v) (map module_bit sq)))

-- SPECIFICATION 6.5: the flags of that stream, one beside each codeword: the stream of a square that is dark where modules are unknown, under
-- mask 0, which inverts nothing. So a flag is not 0 exactly where one of the eight modules of its codeword is unknown (proofs/Theorems.antt, 5).
unfoldable pub flags_from : ℕ → List ℕ → List ℕ
flags_from v sq = stream_from v 0 (map unknown_bit sq)

-- SPECIFICATION 11.3: the blocks of a square, for a version, level and mask, and their flags
unfoldable pub blocks_in : ℕ → ℕ → ℕ → List ℕ → List (List ℕ)
blocks_in v level mask sq = cut (shapes_of v level) (stream_from v mask sq)

unfoldable pub flags_in : ℕ → ℕ → List ℕ → List (List ℕ)
flags_in v level sq = cut (shapes_of v level) (flags_from v sq)

-- 1 side not odd or not 23 to 189; 2 not s × s bytes; 3 a byte above 2; 4 distance above 10; 1 by SPECIFICATION 7.4
unfoldable pub read_refusal : ℕ → List ℕ → ℕ
read_refusal side sq =
    first_refusal
    (unless (is_side side) 1 ∷ unless (eqb (length sq) (side * side)) 2 ∷ unless (all (λ m. leb m 2) sq) 3
    ∷ unless (leb (nearest_in (side_version side) sq).distance 10) 4 ∷ unless (has_blocks (side_version side) (nearest_in (side_version side) sq).level) 1 ∷ [])

-- the same without 4; the first 1 is for version, level and mask
unfoldable pub known_refusal : ℕ → ℕ → ℕ → List ℕ → ℕ
known_refusal v level mask sq =
    first_refusal
    (unless (is_info v level mask) 1 ∷ unless (eqb (length sq) (side_of v * side_of v)) 2 ∷ unless (all (λ m. leb m 2) sq) 3 ∷ unless (has_blocks v level) 1 ∷ [])

-- what the segments of the corrected blocks give, with the count of their corrections
unfoldable pub outcome_reading : ℕ → ℕ → ℕ → ℕ → ℕ → DataOutcome → Reading
outcome_reading v level mask distance count o =
    reading_of o.number
    (cond (eqb o.number 0) (receipt_of v level mask count distance o.payload_length o.script_length) (refusal_receipt o.number))
    o.payload o.script

-- 15 or 6 if a block is refused, by the first; then 7 to 10, and payload and script, as Segments from data
unfoldable pub body_of : ℕ → ℕ → ℕ → ℕ → List ℕ → List ℕ → List ℕ → Reading
body_of v level mask distance sq p s =
    let os = outcomes (shapes_of v level) (flags_in v level sq) (blocks_in v level mask sq) in
    cond (eqb (first_refused os) 0)
    (outcome_reading v level mask distance (count_of os) (from_data (data_parts (shapes_of v level) (blocks_of os)) p s))
    (refused (first_refused os) p s)

-- 2 if the receipt has not 12 bytes, and nothing is written at all
unfoldable pub with_receipt : List ℕ → List ℕ → List ℕ → ℕ → Reading → Reading
with_receipt r p s refusal body =
    cond (eqb (length r) 12) (cond (eqb refusal 0) body (refused refusal p s)) (reading_of 2 r p s)

-- SPECIFICATION 10.9: Read a square
unfoldable pub read_of : List ℕ → ℕ → List ℕ → List ℕ → List ℕ → Reading
read_of sq side p s r =
    let v = side_version side in
    with_receipt r p s (read_refusal side sq) (body_of v (nearest_in v sq).level (nearest_in v sq).mask (nearest_in v sq).distance sq p s)

-- SPECIFICATION 10.10: Read with known version, level, mask; its receipt shows distance 0
unfoldable pub read_known_of : List ℕ → ℕ → ℕ → ℕ → List ℕ → List ℕ → List ℕ → Reading
read_known_of sq v level mask p s r = with_receipt r p s (known_refusal v level mask sq) (body_of v level mask 0 sq p s)
