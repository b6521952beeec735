-- How long payload and script can be: a segment gives at most 3 payload bytes for 10 bits, and a script byte for 3 bits.
use Rattle.general.proofs.Names.{◌≡◌, Bool, true, false, not, List, [], ◌∷◌, flat_map, ℕ, zero, suc, ◌+◌, ◌-◌, ◌*◌, ◌/◌, ◌^◌, ◌<◌, ◌≤◌, get_or, drop}
use Rattle.general.proofs.Names.{mul-suc, zero-add, arith, ltb, eqb, length, get_or, take, drop, length-append, length-drop, get_or-drop}
use lib.Pow.{pow_pos}
use Rattle.bits.specs.Bits.{value, first_words, words, groups}
use Rattle.bits.proofs.Reading.{value_bound}
use Rattle.general.proofs.Choices.{chosen, chosen_less}
use Rattle.segments.specs.Script.{Segment, run, bytes_of, command_of, payload_of, script_of}
use Rattle.segments.specs.Segments.{cut, Result, failed, got, and_then, before, in_bits, digits, groups_of, numeric_of, char_of, text_of}
use Rattle.segments.specs.Segments.{bytes_mode, high_of, low_of, region_size, region_of, first_byte, second_byte, double_byte_of, four_bytes}
use Rattle.segments.specs.Segments.{four_byte_of, eci_value, eci_of, bytes_of_mode, segment_of, Ending, end_mark, few_bits, broken, Parsed, ended}
use Rattle.segments.specs.Segments.{following, parse}
use Rattle.segments.proofs.Turns.{length_digits}
use Rattle.segments.proofs.Steps.{command_length}
use Rattle.bits.proofs.Words.{first_length}

abbrev pub Small : List ℕ → Type 0
Small bs = (i : ℕ) → get_or bs i 0 < 2

pub drop_small : (n : ℕ) (bs : List ℕ) → Small bs → Small (drop n bs)
drop_small n bs h = λ i. rw get_or-drop (h (n + i))

-- ---- words

first_small : (w k : ℕ) (bs : List ℕ) → Small bs → (i : ℕ) → get_or (first_words w k bs) i 0 < 2 ^ w
unfolding first_words groups
first_small w zero bs h i = pow_pos w
first_small w (suc k) bs h zero = rw zero-add at (value_bound bs w 0 0 h (omega arith))
first_small w (suc k) bs h (suc i) = first_small w k (drop w bs) (drop_small w bs h) i

-- ---- words that give at most c bytes each

abbrev Sized : ℕ → List ℕ → Result (List ℕ) → Type 0
Sized c ws (failed bad) = Unit {0}
Sized c ws (got bs u) = (length bs ≤ c * u) × (u ≤ length ws) × (0 < u)

before_sized : (c w : ℕ) (cs ws : List ℕ) (r : Result (List ℕ)) → length cs ≤ c → Sized c ws r → Sized c (w ∷ ws) (before cs r)
before_sized c w cs ws (failed bad) h g = tt
before_sized c w cs ws (got bs u) h g = (rw (length-append cs bs, mul-suc c u) (omega arith), omega arith, omega arith)

groups_sized : (p : ℕ) (ws : List ℕ) → ((i : ℕ) → get_or ws i 0 < 1024) → Sized 3 ws (groups_of p ws)
unfolding groups_of
groups_sized p [] h = tt
groups_sized p (w ∷ ws) h =
    chosen (Sized 3 (w ∷ ws)) (ltb w 1000)
    (λ e. before_sized 3 w (digits 3 p) ws (groups_of w ws) (rw length_digits (omega arith)) (groups_sized w ws (λ i. h (suc i))))
    (λ e. chosen (Sized 3 (w ∷ ws)) (ltb 1020 w)
    (λ g. chosen (Sized 3 (w ∷ ws)) (ltb p (10 ^ (w - 1020))) (λ k. (rw length_digits (omega (arith, h 0)), omega arith, omega arith)) (λ k. tt)) (λ g. tt))

numeric_sized : (ws : List ℕ) → ((i : ℕ) → get_or ws i 0 < 1024) → Sized 3 ws (numeric_of ws)
unfolding numeric_of
numeric_sized [] h = tt
numeric_sized (w ∷ ws) h =
    chosen (Sized 3 (w ∷ ws)) (ltb w 1000) (λ e. before_sized 3 w [] ws (groups_of w ws) (omega arith) (groups_sized w ws (λ i. h (suc i)))) (λ e. tt)

text_sized : (f : Bool) (ws : List ℕ) → Sized 1 ws (text_of f ws)
unfolding text_of
text_sized f [] = tt
text_sized f (w ∷ ws) =
    chosen (Sized 1 (w ∷ ws)) (eqb w 63) (λ e. (omega arith, omega arith, omega arith))
    (λ e. chosen (Sized 1 (w ∷ ws)) (eqb w 62) (λ g. before_sized 1 w [] ws (text_of (not f) ws) (omega arith) (text_sized (not f) ws))
    (λ g. before_sized 1 w (char_of f w ∷ []) ws (text_of f ws) (omega arith) (text_sized f ws)))

region_sized : (f : Bool) (ws : List ℕ) → Sized 2 ws (region_of f ws)
unfolding region_of
region_sized f [] = tt
region_sized f (w ∷ ws) =
    chosen (Sized 2 (w ∷ ws)) (eqb w 4095) (λ e. (omega arith, omega arith, omega arith))
    (λ e. chosen (Sized 2 (w ∷ ws)) (eqb w 4094) (λ g. before_sized 2 w [] ws (region_of (not f) ws) (omega arith) (region_sized (not f) ws))
    (λ g. chosen (Sized 2 (w ∷ ws)) (ltb w (region_size f))
    (λ k. before_sized 2 w (high_of f w ∷ low_of f w ∷ []) ws (region_of f ws) (omega arith) (region_sized f ws)) (λ k. tt)))

double_sized : (ws : List ℕ) → Sized 2 ws (double_byte_of ws)
unfolding double_byte_of
double_sized [] = tt
double_sized (w ∷ ws) =
    chosen (Sized 2 (w ∷ ws)) (eqb w 32767) (λ e. (omega arith, omega arith, omega arith))
    (λ e. chosen (Sized 2 (w ∷ ws)) (ltb w 23940)
    (λ k. before_sized 2 w (first_byte w ∷ second_byte w ∷ []) ws (double_byte_of ws) (omega arith) (double_sized ws)) (λ k. tt))

-- ---- bits

abbrev BitSized : List ℕ → Result (List ℕ) → Type 0
BitSized bs (failed bad) = Unit {0}
BitSized bs (got cs u) = (10 * length cs ≤ 3 * u) × (u ≤ length bs) × (5 ≤ u)

in_bits_lem : (w c : ℕ) (bs : List ℕ) (r : Result (List ℕ)) → ((u : ℕ) → 10 * (c * u) ≤ 3 * (w * u)) → ((u : ℕ) → 0 < u → 5 ≤ w * u)
    → ((u : ℕ) → u ≤ length bs / w → w * u ≤ length bs)
    → Sized c (words w bs) r → BitSized bs (in_bits w r)
unfolding words
in_bits_lem w c bs (failed bad) f g k s = tt
in_bits_lem w c bs (got cs u) f g k s =
    let l : u ≤ length bs / w = rw first_length at s.1 in
    let a = f u in
    (omega arith, k u l, g u s.2)

mode_3 : (bs : List ℕ) → BitSized bs (bytes_mode bs)
unfolding bytes_mode
mode_3 bs =
    let l = first_length 8 (value 0 (take 13 bs)) (drop 13 bs) in
    chosen_less (BitSized bs) (length bs) (13 + 8 * value 0 (take 13 bs)) (λ e. tt) (λ k. (omega arith, k, omega arith))

mode_7 : (bs : List ℕ) → BitSized bs (four_byte_of bs)
unfolding four_byte_of four_bytes
mode_7 bs =
    chosen_less (BitSized bs) (length bs) 21 (λ e. tt)
    (λ k. chosen (BitSized bs) (ltb (value 0 (take 21 bs)) 1587600) (λ e. (omega arith, k, omega arith)) (λ e. tt))

mode_sized : (mode : ℕ) (bs : List ℕ) → Small bs → BitSized bs (bytes_of_mode mode bs)
unfolding bytes_of_mode words
mode_sized mode bs h =
    chosen (BitSized bs) (eqb mode 1)
    (λ e. in_bits_lem 10 3 bs (numeric_of (words 10 bs)) (λ u. omega arith) (λ u p. omega arith) (λ u p. omega arith)
    (numeric_sized (words 10 bs) (first_small 10 (length bs / 10) bs h)))
    (λ e. chosen (BitSized bs) (eqb mode 2)
    (λ e. in_bits_lem 6 1 bs (text_of true (words 6 bs)) (λ u. omega arith) (λ u p. omega arith) (λ u p. omega arith) (text_sized true (words 6 bs)))
    (λ e. chosen (BitSized bs) (eqb mode 3) (λ e. mode_3 bs) (λ e. chosen (BitSized bs) (eqb mode 4) (λ e. region true)
    (λ e. chosen (BitSized bs) (eqb mode 5) (λ e. region false) (λ e. chosen (BitSized bs) (eqb mode 6)
    (λ e. in_bits_lem 15 2 bs (double_byte_of (words 15 bs)) (λ u. omega arith) (λ u p. omega arith) (λ u p. omega arith) (double_sized (words 15 bs)))
    (λ e. chosen (BitSized bs) (eqb mode 7) (λ e. mode_7 bs) (λ e. tt)))))))
  where
    region : (f : Bool) → BitSized bs (in_bits 12 (region_of f (words 12 bs)))
    region f = in_bits_lem 12 2 bs (region_of f (words 12 bs)) (λ u. omega arith) (λ u p. omega arith) (λ u p. omega arith) (region_sized f (words 12 bs))

-- ---- segments

abbrev pub SegmentSized : List ℕ → Result Segment → Type 0
SegmentSized bs (failed bad) = Unit {0}
SegmentSized bs (got g u) = (10 * length (bytes_of g) ≤ 3 * u) × (3 * length (command_of g) ≤ 4 + u) × (u ≤ length bs)

field_sized : (k w : ℕ) (bs : List ℕ) → 8 ≤ k + w → SegmentSized bs (eci_value k w bs)
unfolding eci_value
field_sized k w bs h = chosen_less (SegmentSized bs) (length bs) (k + w) (λ e. tt) (λ m. (omega arith, omega arith, omega arith))

eci_sized : (bs : List ℕ) → SegmentSized bs (eci_of bs)
unfolding eci_of
eci_sized bs =
    chosen (SegmentSized bs) (eqb (get_or bs 0 0) 0) (λ e. field_sized 1 7 bs (omega arith))
    (λ e. chosen (SegmentSized bs) (eqb (get_or bs 1 0) 0) (λ e. field_sized 2 14 bs (omega arith))
    (λ e. chosen (SegmentSized bs) (eqb (get_or bs 2 0) 0) (λ e. field_sized 3 21 bs (omega arith)) (λ e. tt)))

pub segment_sized : (mode : ℕ) (bs : List ℕ) → Small bs → SegmentSized bs (segment_of mode bs)
unfolding segment_of
segment_sized mode bs h = chosen (SegmentSized bs) (eqb mode 8) (λ e. eci_sized bs) (λ e. as_run (bytes_of_mode mode bs) (mode_sized mode bs h))
  where
    as_run : (r : Result (List ℕ)) → BitSized bs r → SegmentSized bs (and_then r (λ cs u. got (run mode cs) u))
    as_run (failed bad) s = tt
    as_run (got cs u) s = let k = command_length mode (length cs) in (s.0, omega arith, s.1)

abbrev pub AllSized : List ℕ → Parsed → Type 0
AllSized bs z = (10 * length (payload_of z.segments) ≤ 3 * length bs) × (3 * length (script_of z.segments) ≤ length bs)

-- no segment
none_sized : (bs : List ℕ) (e : Ending) → AllSized bs (ended e)
unfolding payload_of script_of flat_map
none_sized bs e = (omega arith, omega arith)

-- one segment more, given what holds of the rest
more_sized : (bs : List ℕ) (r : Result Segment) (rest : ℕ → Parsed) → 4 ≤ length bs → SegmentSized (drop 4 bs) r
    → ((u : ℕ) → AllSized (drop u (drop 4 bs)) (rest u)) → AllSized bs (following r rest)
unfolding payload_of script_of flat_map
more_sized bs (failed bad) rest l s a = none_sized bs (broken bad)
more_sized bs (got g u) rest l s a =
    let gs = (rest u).segments in
    let t = a u in
    let n : length (drop u (drop 4 bs)) ≡ length bs - 4 - u = rw (length-drop, length-drop) in
    let m : length (drop 4 bs) ≡ length bs - 4 = length-drop 4 bs in
    let p = length-append (bytes_of g) (payload_of gs) in
    let q = length-append (command_of g) (script_of gs) in
    (omega arith, omega arith)

pub parse_sized : (k : ℕ) (bs : List ℕ) → Small bs → AllSized bs (parse k bs)
unfolding parse
parse_sized zero bs h = none_sized bs (broken cut)
parse_sized (suc k) bs h =
    chosen_less (AllSized bs) (length bs) 4 (λ e. none_sized bs few_bits)
    (λ l. chosen (AllSized bs) (eqb (value 0 (take 4 bs)) 0) (λ e. none_sized bs end_mark)
    (λ e. more_sized bs (segment_of (value 0 (take 4 bs)) (drop 4 bs)) (λ u. parse k (drop u (drop 4 bs))) l
    (segment_sized (value 0 (take 4 bs)) (drop 4 bs) (drop_small 4 bs h))
    (λ u. parse_sized k (drop u (drop 4 bs)) (drop_small u (drop 4 bs) (drop_small 4 bs h)))))
