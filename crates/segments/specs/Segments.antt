-- SPECIFICATION 8: what the bits of the data codewords say, mode by mode and as a whole.
use Rattle.std.specs.Prelude.{Bool, true, false, cond, not, List, [], ◌∷◌, ◌++◌, ℕ, zero, suc, ◌+◌, ◌-◌, ◌*◌, ◌/◌, ◌%◌, ◌^◌, ltb, eqb, length, take, drop, get_or}
use Rattle.bits.specs.Bits.{bits_of, value, first_words, words}
use Rattle.segments.specs.Script.{Segment, run, eci}

-- Why words or bits say nothing: they are cut by the end of the data, or they have a value or mode that the rule lacks.
pub data Fault : Type 0 where
  cut : Fault
  lacking : Fault

-- What words or bits come to: a fault; or they say something, and take so many words or bits.
pub data Result (A : Type 0) : Type 0 where
  failed : Fault → Result A
  got : A → ℕ → Result A

-- what comes of something that was got; a fault stays
abbrev pub and_then : {A B : Type 0} → Result A → (A → ℕ → Result B) → Result B
and_then (failed bad) next = failed bad
and_then (got a u) next = next a u

-- bytes of one word before those of the next words
abbrev pub before : List ℕ → Result (List ℕ) → Result (List ℕ)
before cs r = and_then r (λ bs u. got (cs ++ bs) (suc u))

-- words of w bits counted in bits
abbrev pub in_bits : ℕ → Result (List ℕ) → Result (List ℕ)
in_bits w r = and_then r (λ bs u. got bs (w * u))

-- ---- numeric (8.5): groups of 10 bits, ended by 1020 + the digits of the last group

-- the k low digits of v, as characters
unfoldable pub digits : ℕ → ℕ → List ℕ
digits zero v = []
digits (suc k) v = (48 + v / 10 ^ k % 10) ∷ digits k v

-- the words after a group p, which waits until it is known whether it is the last
unfoldable pub groups_of : ℕ → List ℕ → Result (List ℕ)
groups_of p [] = failed cut
groups_of p (w ∷ ws) =
    cond (ltb w 1000) (before (digits 3 p) (groups_of w ws))
    (cond (ltb 1020 w) (cond (ltb p (10 ^ (w - 1020))) (got (digits (w - 1020) p) 1) (failed lacking)) (failed lacking))

unfoldable pub numeric_of : List ℕ → Result (List ℕ)
numeric_of [] = failed cut
numeric_of (w ∷ ws) = cond (ltb w 1000) (before [] (groups_of w ws)) (failed lacking)

-- ---- text (8.6): words of 6 bits in two subsets (`true` is the first), switched by 62 and ended by 63

unfoldable pub char_of : Bool → ℕ → ℕ
char_of true w = cond (ltb w 10) (48 + w) (cond (ltb w 36) (55 + w) (61 + w))
char_of false w = cond (ltb w 28) w (cond (ltb w 44) (4 + w) (cond (ltb w 51) (14 + w) (cond (ltb w 57) (40 + w) (66 + w))))

unfoldable pub text_of : Bool → List ℕ → Result (List ℕ)
text_of subset [] = failed cut
text_of subset (w ∷ ws) =
    cond (eqb w 63) (got [] 1) (cond (eqb w 62) (before [] (text_of (not subset) ws)) (before (char_of subset w ∷ []) (text_of subset ws)))

-- ---- bytes (8.7): a length n of 13 bits, then n words of 8 bits

unfoldable pub bytes_mode : List ℕ → Result (List ℕ)
bytes_mode bs =
    let n = value 0 (take 13 bs) in
    cond (ltb (length bs) (13 + 8 * n)) (failed cut) (got (first_words 8 n (drop 13 bs)) (13 + 8 * n))

-- ---- regions (8.8; `true` is region one): words of 12 bits, 4094 hands over to the other region, 4095 ends

unfoldable pub high_of : Bool → ℕ → ℕ
high_of true w = cond (ltb w 3760) (0xB0 + w / 94) (cond (ltb w 4042) (0xA1 + (w - 3760) / 94) 0xA8)
high_of false w = 0xD8 + w / 94

unfoldable pub low_of : Bool → ℕ → ℕ
low_of true w = cond (ltb w 3760) (0xA1 + w % 94) (cond (ltb w 4042) (0xA1 + (w - 3760) % 94) (0xA1 + (w - 4042)))
low_of false w = 0xA1 + w % 94

-- how many values a region has
unfoldable pub region_size : Bool → ℕ
region_size true = 4074
region_size false = 3008

unfoldable pub region_of : Bool → List ℕ → Result (List ℕ)
region_of region [] = failed cut
region_of region (w ∷ ws) =
    cond (eqb w 4095) (got [] 1) (cond (eqb w 4094) (before [] (region_of (not region) ws))
    (cond (ltb w (region_size region)) (before (high_of region w ∷ low_of region w ∷ []) (region_of region ws)) (failed lacking)))

-- ---- two-byte (8.8): words of 15 bits, ended by 32767

unfoldable pub first_byte : ℕ → ℕ
first_byte w = 0x81 + w / 190

unfoldable pub second_byte : ℕ → ℕ
second_byte w = cond (ltb (w % 190) 63) (0x40 + w % 190) (0x41 + w % 190)

unfoldable pub double_byte_of : List ℕ → Result (List ℕ)
double_byte_of [] = failed cut
double_byte_of (w ∷ ws) = cond (eqb w 32767) (got [] 1) (cond (ltb w 23940) (before (first_byte w ∷ second_byte w ∷ []) (double_byte_of ws)) (failed lacking))

-- ---- four-byte (8.9): one character in 21 bits

unfoldable pub four_bytes : ℕ → List ℕ
four_bytes w = (0x81 + w / 12600) ∷ (0x30 + w % 12600 / 1260) ∷ (0x81 + w % 1260 / 10) ∷ (0x30 + w % 10) ∷ []

unfoldable pub four_byte_of : List ℕ → Result (List ℕ)
four_byte_of bs =
    cond (ltb (length bs) 21) (failed cut) (cond (ltb (value 0 (take 21 bs)) 1587600) (got (four_bytes (value 0 (take 21 bs))) 21) (failed lacking))

-- ---- ECI (8.10): prefix 0, 10 or 110 and 7, 14 or 21 bits

-- the value in the w bits behind a prefix of k bits
unfoldable pub eci_value : ℕ → ℕ → List ℕ → Result Segment
eci_value k w bs = cond (ltb (length bs) (k + w)) (failed cut) (got (eci (value 0 (take w (drop k bs)))) (k + w))

-- by the first bit that is 0; bits that are cut off count as 0, and the value is cut then
unfoldable pub eci_of : List ℕ → Result Segment
eci_of bs =
    cond (eqb (get_or bs 0 0) 0) (eci_value 1 7 bs)
    (cond (eqb (get_or bs 1 0) 0) (eci_value 2 14 bs) (cond (eqb (get_or bs 2 0) 0) (eci_value 3 21 bs) (failed lacking)))

-- ---- one segment, and all of them (8.2)

-- the bytes of a segment of modes 1 to 7, from the bits behind the mode, and the number of its bits; any other mode is lacking
unfoldable pub bytes_of_mode : ℕ → List ℕ → Result (List ℕ)
bytes_of_mode mode bs =
    cond (eqb mode 1) (in_bits 10 (numeric_of (words 10 bs)))
    (cond (eqb mode 2) (in_bits 6 (text_of true (words 6 bs)))
    (cond (eqb mode 3) (bytes_mode bs)
    (cond (eqb mode 4) (in_bits 12 (region_of true (words 12 bs)))
    (cond (eqb mode 5) (in_bits 12 (region_of false (words 12 bs)))
    (cond (eqb mode 6) (in_bits 15 (double_byte_of (words 15 bs)))
    (cond (eqb mode 7) (four_byte_of bs) (failed lacking)))))))

-- the segment of a mode
unfoldable pub segment_of : ℕ → List ℕ → Result Segment
segment_of mode bs = cond (eqb mode 8) (eci_of bs) (and_then (bytes_of_mode mode bs) (λ cs u. got (run mode cs) u))

-- how data end: at mode 0, with fewer than 4 bits left, or at a segment with a fault
pub data Ending : Type 0 where
  end_mark : Ending
  few_bits : Ending
  broken : Fault → Ending

-- what data say: the whole segments read, and how the data end behind them
pub record Parsed : Type 0 where
  pub segments : List Segment
  pub end : Ending

-- the end behind no segment
abbrev pub ended : Ending → Parsed
ended e = record { segments = []; end = e }

-- a segment before what the bits behind it say
abbrev pub following : Result Segment → (ℕ → Parsed) → Parsed
following (failed bad) rest = ended (broken bad)
following (got g u) rest = record { segments = g ∷ (rest u).segments; end = (rest u).end }

-- Segments one after the other. k bounds their number: each takes more than 4 bits, so one more than the number of bits is never reached.
unfoldable pub parse : ℕ → List ℕ → Parsed
parse zero bs = ended (broken cut)
parse (suc k) bs =
    cond (ltb (length bs) 4) (ended few_bits)
    (cond (eqb (value 0 (take 4 bs)) 0) (ended end_mark)
    (following (segment_of (value 0 (take 4 bs)) (drop 4 bs)) (λ u. parse k (drop u (drop 4 bs)))))

-- what the data codewords say
abbrev pub segments_of : List ℕ → Parsed
segments_of s = parse (8 * length s + 1) (bits_of s)
