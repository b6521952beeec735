-- What the contracts of inner functions say: positions and buffers of one pass over the data. Nobody has to believe anything here.
use Rattle.std.specs.Prelude.{◌≡◌, Bool, cond, not, List, [], ◌∷◌, ℕ, zero, suc, ◌+◌, ◌-◌, ◌*◌, ◌/◌, ◌%◌, ◌≤◌, ◌<◌, eqb, length, drop}
use Rattle.std.proofs.lemmas.List.Edits.{sets}
use Rattle.bits.specs.Bits.{bits_of, words}
use Rattle.segments.specs.declared.Count.{Count}
use Rattle.segments.specs.declared.Count.TheVariants.{Done, Cut, Lacking}
use Rattle.segments.specs.declared.Region.{Region}
use Rattle.segments.specs.declared.Region.TheVariants.{End, Switch, Cut as RegionCut, Lacking as RegionLacking}
use Rattle.segments.specs.declared.Step.{Step}
use Rattle.segments.specs.declared.Step.TheVariants.{On, Cut as StepCut, Lacking as StepLacking}
use Rattle.segments.specs.Script.{Segment, run, eci, bytes_of, command_of, payload_of, script_of}
use Rattle.segments.specs.Segments.{Fault, cut, lacking, Result, failed, got, before, numeric_of, text_of, bytes_mode, region_of}
use Rattle.segments.specs.Segments.{double_byte_of, four_byte_of, bytes_of_mode, Ending, end_mark, few_bits, broken, Parsed}

-- the command of n payload bytes in a mode
abbrev pub run_command : ℕ → ℕ → List ℕ
run_command mode n = cond (eqb mode 7) (7 ∷ []) (mode ∷ n / 256 ∷ n % 256 ∷ [])

-- where a mode's function stops: at a fault, or at a position with n bytes stored in a buffer
pub data State : Type 0 where
  stopped : Fault → State
  at : ℕ → ℕ → List ℕ → State

-- the state behind words of w bits, from the position i, with n bytes in the buffer o before
abbrev pub behind : ℕ → ℕ → ℕ → List ℕ → Result (List ℕ) → State
behind w i n o (failed bad) = stopped bad
behind w i n o (got bs u) = at (i + w * u) (n + length bs) (sets o n bs)

-- the states of the modes, from a position on
abbrev pub numeric_at : List ℕ → ℕ → ℕ → List ℕ → State
numeric_at s i n o = behind 10 i n o (numeric_of (words 10 (drop i (bits_of s))))

abbrev pub text_at : List ℕ → ℕ → ℕ → List ℕ → Bool → State
text_at s i n o subset = behind 6 i n o (text_of subset (words 6 (drop i (bits_of s))))

-- the first n words, one after the other
unfoldable pub bytes_run : ℕ → List ℕ → Result (List ℕ)
bytes_run zero ws = got [] 0
bytes_run (suc n) [] = failed cut
bytes_run (suc n) (w ∷ ws) = before (w ∷ []) (bytes_run n ws)

abbrev pub bytes_run_at : List ℕ → ℕ → ℕ → List ℕ → ℕ → State
bytes_run_at s i n o k = behind 8 i n o (bytes_run k (words 8 (drop i (bits_of s))))

abbrev pub bytes_at : List ℕ → ℕ → ℕ → List ℕ → State
bytes_at s i n o = behind 1 i n o (bytes_mode (drop i (bits_of s)))

abbrev pub region_at : List ℕ → ℕ → ℕ → List ℕ → Bool → State
region_at s i n o region = behind 12 i n o (region_of region (words 12 (drop i (bits_of s))))

abbrev pub double_byte_at : List ℕ → ℕ → ℕ → List ℕ → State
double_byte_at s i n o = behind 15 i n o (double_byte_of (words 15 (drop i (bits_of s))))

abbrev pub four_byte_at : List ℕ → ℕ → ℕ → List ℕ → State
four_byte_at s i n o = behind 1 i n o (four_byte_of (drop i (bits_of s)))

abbrev pub run_at : List ℕ → ℕ → ℕ → List ℕ → ℕ → State
run_at s i n o mode = behind 1 i n o (bytes_of_mode mode (drop i (bits_of s)))

-- the answers for a fault
abbrev pub counted : Fault → Count
counted cut = Cut
counted lacking = Lacking

abbrev pub stepped : Fault → Step
stepped cut = StepCut
stepped lacking = StepLacking

-- the answer r and the buffer x that a function leaves at a state; after a stop the buffer is not told
abbrev pub Left : State → Count → List ℕ → Type 0
Left (stopped bad) r x = r ≡ counted bad
Left (at i n o) r x = (r ≡ Done i n) × (x ≡ o)

-- the answer of a region as one number
abbrev pub count_of : ℕ → Count
count_of r = cond (eqb r 0) Cut (cond (eqb r 1) Lacking (Done ((r - 2) / 65536) ((r - 2) % 65536)))

-- an answer within the bits, behind where the function began, with no more bytes than bits
abbrev pub Inside : List ℕ → ℕ → ℕ → Count → Type 0
Inside s from to (Done i n) = (from ≤ i) × (i ≤ 8 * length s) × (to ≤ n) × (n ≤ i)
Inside s from to Cut = Unit {0}
Inside s from to Lacking = Unit {0}

-- what a run of characters in one region leaves of the segment: its end or a fault, or a switch behind which the other region goes on
abbrev pub RegionCases : List ℕ → ℕ → ℕ → List ℕ → Bool → Region → List ℕ → Type 0
RegionCases s from to o region (End i n) x = (region_at s from to o region ≡ at i n x) × Inside s from to (Done i n)
RegionCases s from to o region (Switch i n) x =
    (region_at s from to o region ≡ region_at s i n x (not region)) × (from + 12 ≤ i) × Inside s from to (Done i n)
RegionCases s from to o region RegionCut x = region_at s from to o region ≡ stopped cut
RegionCases s from to o region RegionLacking x = region_at s from to o region ≡ stopped lacking

pub record RegionLeft (s : List ℕ) (from to : ℕ) (o : List ℕ) (region : Bool) (r : Region) (x : List ℕ) : Type 0 where
  pub cases : RegionCases s from to o region r x

-- the position and the value behind an ECI at the position i
abbrev pub EciLeft : List ℕ → ℕ → Result Segment → Count → Type 0
EciLeft s i (failed bad) r = r ≡ counted bad
EciLeft s i (got (eci v) u) r = (r ≡ Done (i + u) v) × (i + u ≤ 8 * length s) × (v < 2097152)
EciLeft s i (got (run mode bs) u) r = ⊥

-- one segment from the position i, with n payload bytes in o and m script bytes in c before it
abbrev pub Stepped : List ℕ → ℕ → ℕ → ℕ → List ℕ → List ℕ → Result Segment → Step → List ℕ → List ℕ → Type 0
Stepped s i n m o c (failed bad) r x y = r ≡ stepped bad
Stepped s i n m o c (got g u) r x y =
    (r ≡ On (i + u) (n + length (bytes_of g)) (m + length (command_of g))) × (x ≡ sets o n (bytes_of g)) × (y ≡ sets c m (command_of g))
    × (i + u ≤ 8 * length s) × (n + length (bytes_of g) ≤ i + u) × (m + length (command_of g) ≤ i + u)

-- a pass that has stored n payload bytes in o and m script bytes in c, and reached the end of these segments
abbrev pub Reached : ℕ → ℕ → List ℕ → List ℕ → List Segment → Count → List ℕ → List ℕ → Type 0
Reached n m o c gs r x y = (r ≡ Done (n + length (payload_of gs)) (m + length (script_of gs))) × (x ≡ sets o n (payload_of gs)) × (y ≡ sets c m (script_of gs))

-- a pass with these segments and this end to come
abbrev pub ParsesTo : ℕ → ℕ → List ℕ → List ℕ → List Segment → Ending → Count → List ℕ → List ℕ → Type 0
ParsesTo n m o c gs end_mark r x y = Reached n m o c gs r x y
ParsesTo n m o c gs few_bits r x y = Reached n m o c gs r x y
ParsesTo n m o c gs (broken bad) r x y = r ≡ counted bad

abbrev pub Parses : ℕ → ℕ → List ℕ → List ℕ → Parsed → Count → List ℕ → List ℕ → Type 0
Parses n m o c z r x y = ParsesTo n m o c z.segments z.end r x y
