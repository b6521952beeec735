-- What inner functions say of each other: the code's commands, its answer, and a number of bits that stops where no mark has more. Nobody
-- has to believe anything here.
use Rattle.std.specs.Prelude.{◌≡◌, Bool, true, cond, not, ◌&&◌, List, [], ◌∷◌, ℕ, ◌+◌, ◌*◌, ◌<◌, ◌≤◌, ltb, eqb, leb, length, get_or}
use Rattle.std.proofs.Math.Option
use Rattle.std.proofs.Math.Option.{Option, none, some, map}
use Rattle.segments.specs.Script.{Segment, eci}
use Rattle.script.specs.declared.Command.{Command}
use Rattle.script.specs.declared.Command.TheVariants.{Run, Eci, Wrong}
use Rattle.script.specs.declared.Check.{Check}
use Rattle.script.specs.declared.Check.TheVariants.{Bits, Malformed, Lacking, Empty}
use Rattle.general.specs.Lists.{all}
use Rattle.script.specs.Writer.{has, encodings, data_bytes}
use Rattle.script.specs.Lengths.{bits_of_segments}
use Rattle.script.specs.Check.{allowed, taking, commands_of}

-- each of some segments has its bytes
abbrev pub all_have : List Segment → Bool
all_have gs = all has gs

-- the n data bytes of segments; where there are none, nothing is written
abbrev pub script_data : ℕ → Option (List Segment) → List ℕ
script_data n gs = data_bytes n (Option.get_or gs [])

-- the operands behind the first byte of a script, big-endian: a length in 2 bytes, a value in 3
abbrev pub length_operand : List ℕ → ℕ
length_operand s = get_or s 1 0 * 256 + get_or s 2 0

abbrev pub value_operand : List ℕ → ℕ
value_operand s = get_or s 1 0 * 65536 + get_or s 2 0 * 256 + get_or s 3 0

-- a command of modes 1 to 6 at the front of a script, an ECI, and any command
unfoldable pub run_at : List ℕ → Command
run_at s = cond (ltb (length s) 3) Wrong (cond (allowed (get_or s 0 0) (length_operand s)) (Run (get_or s 0 0) (length_operand s)) Wrong)

unfoldable pub eci_at : List ℕ → Command
eci_at s = cond (ltb (length s) 4) Wrong (cond (ltb 2097151 (value_operand s)) Wrong (Eci (value_operand s)))

unfoldable pub command_at : List ℕ → Command
command_at s =
    cond (eqb (get_or s 0 0) 7) (Run 7 4)
    (cond (eqb (get_or s 0 0) 8) (eci_at s) (cond (leb 1 (get_or s 0 0) && leb (get_or s 0 0) 6) (run_at s) Wrong))

-- how many bytes a command of modes 1 to 7 has
unfoldable pub command_size : ℕ → ℕ
command_size mode = cond (eqb mode 7) 1 3

-- what a command makes of a payload
abbrev pub made : Command → List ℕ → Option Segment
made Wrong p = none
made (Eci v) p = some (eci v)
made (Run mode n) p = taking mode n p

-- a segment before others
abbrev pub with : Segment → Option (List Segment) → Option (List Segment)
with g z = map (λ (gs : List Segment). g ∷ gs) z

-- no mark has more than 8 × 3,886 bits: a greater number of bits is answered as this one
abbrev pub most : ℕ
most = 31089

abbrev pub capped : ℕ → ℕ
capped n = cond (ltb n most) n most

-- the answer of the check
abbrev pub checked_of : Option (List Segment) → List ℕ → Check
checked_of none p = Malformed
checked_of (some gs) p = cond (all_have gs) (cond (eqb (length p) 0) Empty (Bits (capped (bits_of_segments gs)))) Lacking

abbrev pub check_of : List ℕ → List ℕ → Check
check_of s p = checked_of (commands_of s p) p

-- the answer where some commands are behind: whether one of them lacks some of its bytes, and their bits so far
abbrev pub checked_after : Bool → ℕ → Option (List Segment) → List ℕ → Check
checked_after lacks t none p = Malformed
checked_after lacks t (some gs) p = cond (not lacks && all_have gs) (cond (eqb (length p) 0) Empty (Bits (capped (t + bits_of_segments gs)))) Lacking

-- script and payload are accepted, and the bits of their segments fit n bytes
pub record Fits (s p : List ℕ) (n : ℕ) : Type 0 where
  pub segments : List Segment
  pub are : commands_of s p ≡ some segments
  pub have : all_have segments ≡ true
  pub filled : 0 < length p
  pub room : length (encodings segments) ≤ 8 * n
