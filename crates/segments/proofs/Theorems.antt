-- What a customer can quote of Segments from data.
use Rattle.general.proofs.Names.{List, ℕ, ◌+◌, ◌*◌, ◌≤◌, arith, length}
use Rattle.bits.specs.Bits.{bits_of}
use Rattle.bits.proofs.Reading.{bit_lt, length_bits}
use Rattle.segments.specs.Script.{payload_of, script_of}
use Rattle.segments.specs.Segments.{segments_of}
use Rattle.segments.proofs.Sizes.{parse_sized}

-- Data of at most 3,886 bytes give a payload and a script of at most 12,288 bytes each.
pub room_enough : (s : List ℕ) → length s ≤ 3886
    → (length (payload_of (segments_of s).segments) ≤ 12288) × (length (script_of (segments_of s).segments) ≤ 12288)
room_enough s h =
    let a = parse_sized (8 * length s + 1) (bits_of s) (bit_lt s) in
    let l = length_bits s in
    (omega arith, omega arith)
