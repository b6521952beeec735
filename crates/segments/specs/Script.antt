-- SPECIFICATION 2.5 and 8.11: the script, commands of one byte with operands of fixed width, big-endian, and the payload beside them.
use Rattle.std.specs.Prelude.{cond, ℕ, ◌/◌, ◌%◌, eqb, length}
use mathlib.Core.List.{List, [], ◌∷◌, flat_map}

-- A segment of modes 1 to 7 has payload bytes; mode 8, ECI, has a value instead.
pub data Segment : Type 0 where
  run : ℕ → List ℕ → Segment
  eci : ℕ → Segment

-- its payload bytes
abbrev pub bytes_of : Segment → List ℕ
bytes_of (run mode bs) = bs
bytes_of (eci v) = []

-- the command of a segment: 7 stands alone, 1 to 6 have a 2-byte length in payload bytes, 8 has a 3-byte value
abbrev pub command_of : Segment → List ℕ
command_of (run mode bs) = cond (eqb mode 7) (7 ∷ []) (mode ∷ length bs / 256 ∷ length bs % 256 ∷ [])
command_of (eci v) = 8 ∷ v / 65536 ∷ v / 256 % 256 ∷ v % 256 ∷ []

-- the payload of segments
unfoldable pub payload_of : List Segment → List ℕ
payload_of gs = flat_map bytes_of gs

-- the script of segments
unfoldable pub script_of : List Segment → List ℕ
script_of gs = flat_map command_of gs
