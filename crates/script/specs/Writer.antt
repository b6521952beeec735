-- SPECIFICATION 9: each command in its mode, switches only where the next character needs one, shortest ECI; all later bits 0.
use Rattle.std.specs.Prelude.{Bool, true, false, cond, not, ◌&&◌, ◌||◌, ℕ, ◌+◌, ◌-◌, ◌*◌, ltb, eqb, leb, length, get_or, replicate}
use mathlib.Core.List.{List, [], ◌∷◌, ◌++◌, flat_map}
use Rattle.general.specs.Lists.{all}
use Rattle.bits.specs.Bits.{low_bits, word_bits, words}
use Rattle.segments.specs.Script.{Segment, run, eci}
use Rattle.segments.specs.Segments.{char_of, high_of, low_of, region_size, first_byte, second_byte, four_bytes}

-- every pair passes a test; a byte left alone does not
abbrev pub all_pairs : (ℕ → ℕ → Bool) → List ℕ → Bool
all_pairs test [] = true
all_pairs test (a ∷ []) = false
all_pairs test (a ∷ b ∷ bs) = test a b && all_pairs test bs

-- ---- numeric

unfoldable pub is_digit : ℕ → Bool
is_digit b = leb 48 b && ltb b 58

-- groups of three digits; the last word is 1020 + the digits of the last group
unfoldable pub numeric_words : List ℕ → List ℕ
numeric_words [] = 1023 ∷ []
numeric_words (a ∷ []) = (a - 48) ∷ 1021 ∷ []
numeric_words (a ∷ b ∷ []) = ((a - 48) * 10 + (b - 48)) ∷ 1022 ∷ []
numeric_words (a ∷ b ∷ c ∷ ds) = ((a - 48) * 100 + (b - 48) * 10 + (c - 48)) ∷ numeric_words ds

-- ---- text

-- the value of a byte in a subset, where it has one
unfoldable pub code_of : Bool → ℕ → ℕ
code_of true b = cond (ltb b 58) (b - 48) (cond (ltb b 91) (b - 55) (b - 61))
code_of false b = cond (ltb b 28) b (cond (ltb b 48) (b - 4) (cond (ltb b 65) (b - 14) (cond (ltb b 97) (b - 40) (b - 66))))

-- a subset has a byte when reading its value gives the byte again
unfoldable pub in_subset : Bool → ℕ → Bool
in_subset subset b = ltb (code_of subset b) 62 && eqb (char_of subset (code_of subset b)) b

unfoldable pub in_text : ℕ → Bool
in_text b = in_subset true b || in_subset false b

unfoldable pub text_words : Bool → List ℕ → List ℕ
text_words subset [] = 63 ∷ []
text_words subset (b ∷ bs) =
    cond (in_subset subset b) (code_of subset b ∷ text_words subset bs) (62 ∷ code_of (not subset) b ∷ text_words (not subset) bs)

-- ---- regions

-- the value of a pair of bytes in a region, where it has one
unfoldable pub pair_code : Bool → ℕ → ℕ → ℕ
pair_code true a b =
    cond (ltb a 0xA4) (3760 + (a - 0xA1) * 94 + (b - 0xA1)) (cond (eqb a 0xA8) (4042 + (b - 0xA1)) ((a - 0xB0) * 94 + (b - 0xA1)))
pair_code false a b = (a - 0xD8) * 94 + (b - 0xA1)

-- a region has a pair when reading its value gives the pair again
unfoldable pub in_region : Bool → ℕ → ℕ → Bool
in_region region a b =
    ltb (pair_code region a b) (region_size region) && (eqb (high_of region (pair_code region a b)) a && eqb (low_of region (pair_code region a b)) b)

unfoldable pub in_regions : ℕ → ℕ → Bool
in_regions a b = in_region true a b || in_region false a b

unfoldable pub region_words : Bool → List ℕ → List ℕ
region_words region [] = 4095 ∷ []
region_words region (a ∷ []) = 4095 ∷ []
region_words region (a ∷ b ∷ bs) =
    cond (in_region region a b) (pair_code region a b ∷ region_words region bs) (4094 ∷ pair_code (not region) a b ∷ region_words (not region) bs)

-- ---- two-byte

unfoldable pub double_code : ℕ → ℕ → ℕ
double_code a b = (a - 0x81) * 190 + cond (ltb b 0x7F) (b - 0x40) (b - 0x41)

unfoldable pub in_double : ℕ → ℕ → Bool
in_double a b = ltb (double_code a b) 23940 && (eqb (first_byte (double_code a b)) a && eqb (second_byte (double_code a b)) b)

unfoldable pub double_words : List ℕ → List ℕ
double_words [] = 32767 ∷ []
double_words (a ∷ []) = 32767 ∷ []
double_words (a ∷ b ∷ bs) = double_code a b ∷ double_words bs

-- ---- four-byte

unfoldable pub four_code : List ℕ → ℕ
four_code bs = (get_or bs 0 0 - 0x81) * 12600 + (get_or bs 1 0 - 0x30) * 1260 + (get_or bs 2 0 - 0x81) * 10 + (get_or bs 3 0 - 0x30)

-- two lists of bytes are the same
unfoldable pub same : List ℕ → List ℕ → Bool
same [] [] = true
same [] (b ∷ bs) = false
same (a ∷ as') [] = false
same (a ∷ as') (b ∷ bs) = eqb a b && same as' bs

unfoldable pub in_four : List ℕ → Bool
in_four bs = ltb (four_code bs) 1587600 && same (four_bytes (four_code bs)) bs

-- ---- ECI

-- the shortest prefix that holds the value
unfoldable pub eci_bits : ℕ → List ℕ
eci_bits v =
    cond (ltb v 128) (0 ∷ low_bits 7 v)
    (cond (ltb v 16384) (1 ∷ 0 ∷ low_bits 14 v) (1 ∷ 1 ∷ 0 ∷ low_bits 21 v))

-- ---- segments

-- a mode has the bytes: each byte, pair or four bytes
unfoldable pub mode_has : ℕ → List ℕ → Bool
mode_has mode bs =
    cond (eqb mode 1) (all is_digit bs)
    (cond (eqb mode 2) (all in_text bs)
    (cond (eqb mode 3) (all (λ b. ltb b 256) bs)
    (cond (eqb mode 4) (all_pairs in_regions bs)
    (cond (eqb mode 5) (all_pairs in_regions bs)
    (cond (eqb mode 6) (all_pairs in_double bs) (in_four bs))))))

-- the bits of bytes in a mode, behind the mode
unfoldable pub mode_bits : ℕ → List ℕ → List ℕ
mode_bits mode bs =
    cond (eqb mode 1) (word_bits 10 (numeric_words bs))
    (cond (eqb mode 2) (word_bits 6 (text_words true bs))
    (cond (eqb mode 3) (low_bits 13 (length bs) ++ word_bits 8 bs)
    (cond (eqb mode 4) (word_bits 12 (region_words true bs))
    (cond (eqb mode 5) (word_bits 12 (region_words false bs))
    (cond (eqb mode 6) (word_bits 15 (double_words bs)) (low_bits 21 (four_code bs)))))))

-- the mode of a segment has its bytes
abbrev pub has : Segment → Bool
has (run mode bs) = mode_has mode bs
has (eci v) = true

-- the bits of a segment: 4 bits of mode, then its own
abbrev pub encoding_of : Segment → List ℕ
encoding_of (run mode bs) = low_bits 4 mode ++ mode_bits mode bs
encoding_of (eci v) = low_bits 4 8 ++ eci_bits v

unfoldable pub encodings : List Segment → List ℕ
encodings gs = flat_map encoding_of gs

-- the n data bytes of segments: their bits, and zeros behind
abbrev pub data_bytes : ℕ → List Segment → List ℕ
data_bytes n gs = words 8 (encodings gs ++ replicate (8 * n - length (encodings gs)) 0)
