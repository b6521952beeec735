-- SPECIFICATION 10.11: Write a square.
use Rattle.std.specs.Prelude.{Bool, cond, List, [], ◌∷◌, ℕ, ◌*◌, ltb, leb, eqb, length}
use Rattle.std.proofs.Math.Option.{Option, none, some, get_or}
use Rattle.general.specs.Lists.{all}
use Rattle.symbol.specs.Version.{side_of}
use Rattle.symbol.specs.Layout.{layout_of}
use Rattle.information.specs.Information.{is_info, info_bits, info_written}
use Rattle.block_table.specs.Blocks.{shapes_of, has_blocks, total_data}
use Rattle.bits.specs.Bits.{bits_of}
use Rattle.codewords.specs.Codewords.{mask_bit, placed, from_stream}
use Rattle.blocks.specs.Blockwise.{stream_of}
use Rattle.segments.specs.Script.{Segment}
use Rattle.script.specs.Writer.{has, encodings, data_bytes}
use Rattle.script.specs.Check.{commands_of}
use Rattle.marks.specs.Read.{first_refusal, unless}

-- what writing gives: the refusal number or 0, and what the square holds afterwards
pub record Writing : Type 0 where
  pub number : ℕ
  pub square : List ℕ

-- what a call that returns n leaves in the square
abbrev pub writing_of : ℕ → List ℕ → Writing
writing_of n sq = record { number = n; square = sq }

-- how many data codewords a version and level have
abbrev pub room_of : ℕ → ℕ → ℕ
room_of v level = total_data (shapes_of v level)

-- the segments that a script makes of a payload
abbrev pub script_segments : List ℕ → List ℕ → List Segment
script_segments s p = get_or (commands_of s p) []

-- SPECIFICATION 10.8, for the segments that a script makes of the payload p: 11 the commands make none; 12 a segment has a byte, pair or
-- four bytes that its mode lacks; 8 payload empty
abbrev pub segments_refusal : Option (List Segment) → List ℕ → ℕ
segments_refusal none p = 11
segments_refusal (some gs) p = first_refusal (unless (all has gs) 12 ∷ unless (ltb 0 (length p)) 8 ∷ [])

-- the bits of a script and payload are no more than 8 × the data codewords of a version and level
unfoldable pub fits : ℕ → ℕ → List ℕ → List ℕ → Bool
fits v level s p = leb (length (encodings (script_segments s p))) (8 * room_of v level)

-- 1 version, level or mask outside its range, or by SPECIFICATION 7.4; 2 square not s × s; 11, 12 and 8; 13 more bits than fit
unfoldable pub write_refusal : ℕ → ℕ → ℕ → List ℕ → List ℕ → List ℕ → ℕ
write_refusal v level mask s p sq =
    first_refusal
    (unless (is_info v level mask) 1 ∷ unless (has_blocks v level) 1 ∷ unless (eqb (length sq) (side_of v * side_of v)) 2
    ∷ segments_refusal (commands_of s p) p ∷ unless (fits v level s p) 13 ∷ [])

-- the mark: the bits of the script in the data codewords, blocks with their parity, the stream in the masked data modules, and the word
unfoldable pub mark_of : ℕ → ℕ → ℕ → List ℕ → List ℕ → List ℕ
mark_of v level mask s p =
    let stream = stream_of (shapes_of v level) (data_bytes (room_of v level) (script_segments s p)) in
    info_written (side_of v) (info_bits v level mask) (placed (mask_bit (side_of v) mask) 0 (layout_of v) (bits_of (from_stream stream)))

-- a refusal leaves the square
unfoldable pub write_of : ℕ → ℕ → ℕ → List ℕ → List ℕ → List ℕ → Writing
write_of v level mask s p sq =
    cond (eqb (write_refusal v level mask s p sq) 0) (writing_of 0 (mark_of v level mask s p))
    (writing_of (write_refusal v level mask s p sq) sq)
