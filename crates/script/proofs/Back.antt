-- Segments that are written are read back, with zero bits behind them.
use Rattle.general.proofs.Names.{◌≡◌, refl, ◌∙◌, true, false, List, [], ◌∷◌, ◌++◌, append_assoc, flat_map, ℕ, zero, suc, ◌+◌, ◌*◌, ◌^◌, ◌<◌, drop-append_seam}
use Rattle.general.proofs.Names.{◌≤◌, le_of_suc-le-suc, arith, ne_eqb, lt-ltb, le-ltb, ltb-true, ltb, length, get_or, drop, replicate, length-append, take_at}
use Rattle.general.proofs.Names.{drop_at}
use Rattle.bits.specs.Bits.{low_bits, value, words, word_bits}
use Rattle.bits.proofs.Words.{length_low, low_back, length_words, words_back, first_back}
use Rattle.segments.specs.Script.{Segment, run, eci}
use Rattle.segments.specs.FromData.{is_broken}
use Rattle.segments.specs.Segments.{Result, got, in_bits, numeric_of, text_of, bytes_mode, region_of, double_byte_of, four_bytes, four_byte_of, eci_value}
use Rattle.segments.specs.Segments.{eci_of, bytes_of_mode, segment_of, Parsed, following, parse}
use Rattle.script.specs.Writer.{numeric_words, text_words, region_words, double_words, four_code, same, in_four, eci_bits, mode_has, mode_bits}
use Rattle.script.specs.Writer.{has, encoding_of, encodings}
use Rattle.general.proofs.Choices.{chosen_less}
use Rattle.script.proofs.Tests.{both, same_is}
use Rattle.script.proofs.Digits.{numeric_back, numeric_small}
use Rattle.script.proofs.Characters.{text_back, text_small, region_back, region_small, double_back, double_small}
use Rattle.script.specs.Inner.{all_have}
use Rattle.general.specs.Lists.{all}

-- ---- the modes in bits

word_mode : (w : ℕ) (f : List ℕ → Result (List ℕ)) (ws bs rest : List ℕ) → 0 < w → ((i : ℕ) → get_or ws i 0 < 2 ^ w)
    → f (ws ++ words w rest) ≡ got bs (length ws)
    → in_bits w (f (words w (word_bits w ws ++ rest))) ≡ got bs (length (word_bits w ws))
word_mode w f ws bs rest p h e = rw (words_back w ws rest p h, e, length_words w ws)

byte_small : (bs : List ℕ) → all (λ b. ltb b 256) bs ≡ true → (i : ℕ) → get_or bs i 0 < 256
byte_small [] h i = omega arith
byte_small (b ∷ bs) h zero = ltb-true b 256 (both (ltb b 256) (all (λ b. ltb b 256) bs) h).0
byte_small (b ∷ bs) h (suc i) = byte_small bs (both (ltb b 256) (all (λ b. ltb b 256) bs) h).1 i

bytes_mode_back : (bs rest : List ℕ) → length bs ≤ 8191 → all (λ b. ltb b 256) bs ≡ true
    → bytes_mode ((low_bits 13 (length bs) ++ word_bits 8 bs) ++ rest) ≡ got bs (length (low_bits 13 (length bs) ++ word_bits 8 bs))
unfolding bytes_mode
bytes_mode_back bs rest l h =
    let y : List ℕ = word_bits 8 bs ++ rest in
    let k : 13 + 8 * length bs ≤ length (low_bits 13 (length bs) ++ y) =
    omega (arith, length-append (low_bits 13 (length bs)) y, length-append (word_bits 8 bs) rest, length_low 13 (length bs), length_words 8 bs) in
    let n : length (low_bits 13 (length bs) ++ word_bits 8 bs) ≡ 13 + 8 * length bs = rw (length-append, length_low, length_words) in
    let o = length_low 13 (length bs) in
    rw (append_assoc, n, take_at _ y 13 o, low_back 13 (length bs) (omega arith), le-ltb _ _ k, drop_at _ y 13 o, first_back 8 bs rest (byte_small bs h))

four_back : (bs rest : List ℕ) → in_four bs ≡ true → four_byte_of (low_bits 21 (four_code bs) ++ rest) ≡ got bs (length (low_bits 21 (four_code bs)))
unfolding in_four four_byte_of
four_back bs rest h =
    let t = both (ltb (four_code bs) 1587600) (same (four_bytes (four_code bs)) bs) h in
    let v = ltb-true (four_code bs) 1587600 t.0 in
    let o = length_low 21 (four_code bs) in
    let k : 21 ≤ length (low_bits 21 (four_code bs) ++ rest) = rw length-append (omega arith) in
    rw (le-ltb _ 21 k, take_at _ rest 21 o, low_back 21 (four_code bs) (omega arith), lt-ltb _ _ v, same_is _ bs t.1, length_low)

-- what the check has shown of a segment
abbrev pub Legal : Segment → Type 0
Legal (run mode bs) = (1 ≤ mode) × (mode ≤ 7) × (mode ≡ 1 → 0 < length bs) × (mode ≡ 3 → length bs ≤ 8191)
Legal (eci v) = v ≤ 2097151

abbrev pub AllLegal : List Segment → Type 0
AllLegal [] = Unit {0}
AllLegal (g ∷ gs) = Legal g × AllLegal gs

module _ (bs rest : List ℕ) where
  pub mode_back : (mode : ℕ) → Legal (run mode bs) → mode_has mode bs ≡ true
      → bytes_of_mode mode (mode_bits mode bs ++ rest) ≡ got bs (length (mode_bits mode bs))
  unfolding bytes_of_mode mode_has mode_bits
  mode_back zero l h = absurd (omega arith)
  mode_back (suc zero) l h = word_mode 10 numeric_of (numeric_words bs) bs rest (omega arith) (numeric_small bs h) (numeric_back bs (words 10 rest) (l.2 refl) h)
  mode_back (suc (suc zero)) l h =
      word_mode 6 (text_of true) (text_words true bs) bs rest (omega arith) (text_small true bs h) (text_back true bs (words 6 rest) h)
  mode_back (suc (suc (suc zero))) l h = bytes_mode_back bs rest (l.3 refl) h
  mode_back (suc (suc (suc (suc zero)))) l h =
      word_mode 12 (region_of true) (region_words true bs) bs rest (omega arith) (region_small true bs h) (region_back true bs (words 12 rest) h)
  mode_back (suc (suc (suc (suc (suc zero))))) l h =
      word_mode 12 (region_of false) (region_words false bs) bs rest (omega arith) (region_small false bs h) (region_back false bs (words 12 rest) h)
  mode_back (suc (suc (suc (suc (suc (suc zero)))))) l h =
      word_mode 15 double_byte_of (double_words bs) bs rest (omega arith) (double_small bs h) (double_back bs (words 15 rest) h)
  mode_back (suc (suc (suc (suc (suc (suc (suc zero))))))) l h = four_back bs rest h
  mode_back (suc (suc (suc (suc (suc (suc (suc (suc m)))))))) l h = absurd (omega arith)

-- ---- ECI

field_back : (ps : List ℕ) (w v : ℕ) (rest : List ℕ) → v < 2 ^ w → eci_value (length ps) w (ps ++ (low_bits w v ++ rest)) ≡ got (eci v) (length ps + w)
unfolding eci_value
field_back ps w v rest h =
    let l : length ps + w ≤ length (ps ++ (low_bits w v ++ rest)) = simp (length-append, length_low) (omega arith) in
    rw (le-ltb _ _ l, drop-append_seam, take_at _ rest w (length_low w v), low_back w v h)

eci_back : (v : ℕ) (rest : List ℕ) → v ≤ 2097151 → eci_of (eci_bits v ++ rest) ≡ got (eci v) (length (eci_bits v))
unfolding eci_bits eci_of
eci_back v rest h =
    chosen_less (λ l. eci_of (l ++ rest) ≡ got (eci v) (length l)) v 128 (λ p. field_back (0 ∷ []) 7 v rest p ∙ rw length_low)
    (λ p. chosen_less (λ l. eci_of (l ++ rest) ≡ got (eci v) (length l)) v 16384 (λ q. field_back (1 ∷ 0 ∷ []) 14 v rest q ∙ rw length_low)
    (λ q. field_back (1 ∷ 1 ∷ 0 ∷ []) 21 v rest (omega arith) ∙ rw length_low))

-- ---- one segment and all of them

abbrev body_of : Segment → List ℕ
body_of (run mode bs) = mode_bits mode bs
body_of (eci v) = eci_bits v

abbrev mode_of : Segment → ℕ
mode_of (run mode bs) = mode
mode_of (eci v) = 8

segment_back : (g : Segment) (rest : List ℕ) → Legal g → has g ≡ true → segment_of (mode_of g) (body_of g ++ rest) ≡ got g (length (body_of g))
unfolding segment_of
segment_back (run mode bs) rest l h = rw (ne_eqb mode 8 (λ e. omega arith), mode_back bs rest mode l h)
segment_back (eci v) rest l h = eci_back v rest l

mode_small : (g : Segment) → Legal g → (0 < mode_of g) × (mode_of g < 16)
mode_small (run mode bs) l = (omega arith, omega arith)
mode_small (eci v) l = (omega arith, omega arith)

encoding_parts : (g : Segment) → encoding_of g ≡ low_bits 4 (mode_of g) ++ body_of g
encoding_parts (run mode bs) = refl
encoding_parts (eci v) = refl

opened : (k m : ℕ) (y : List ℕ) → 0 < m → m < 16 → parse (suc k) (low_bits 4 m ++ y) ≡ following (segment_of m y) (λ u. parse k (drop u y))
unfolding parse
opened k m y p h =
    let o = length_low 4 m in
    let l : 4 ≤ length (low_bits 4 m ++ y) = rw length-append (omega arith) in
    simp (le-ltb (length (low_bits 4 m ++ y)) 4 l, take_at (low_bits 4 m) y 4 o, drop_at (low_bits 4 m) y 4 o, low_back 4 m h, ne_eqb m 0 (λ e. omega arith))

-- a whole parse: these segments, and an end that is not broken
abbrev pub Whole : Parsed → List Segment → Type 0
Whole z gs = (z.segments ≡ gs) × (is_broken z.end ≡ false)

zeros : (z k : ℕ) → 0 < k → Whole (parse k (replicate z 0)) []
unfolding parse value
zeros z zero h = absurd (omega arith)
zeros zero (suc k) h = (refl, refl)
zeros (suc zero) (suc k) h = (refl, refl)
zeros (suc (suc zero)) (suc k) h = (refl, refl)
zeros (suc (suc (suc zero))) (suc k) h = (refl, refl)
zeros (suc (suc (suc (suc z)))) (suc k) h =
    rw (le-ltb (suc (suc (suc (suc (length {A = ℕ} (replicate z 0)))))) 4 (omega arith)) (refl, refl)

pub round : (k : ℕ) (gs : List Segment) (z : ℕ) → length gs < k → AllLegal gs → all_have gs ≡ true
    → Whole (parse k (encodings gs ++ replicate z 0)) gs
unfolding encodings flat_map
round zero gs z h l t = absurd (omega arith)
round (suc k) [] z h l t = zeros z (suc k) (omega arith)
round (suc k) (g ∷ gs) z h l t =
    let x : List ℕ = encodings gs ++ replicate z 0 in
    let a = both (has g) (all_have gs) t in
    let r = round k gs z (le_of_suc-le-suc h) l.1 a.1 in
    let m = mode_small g l.0 in
    let e : (encoding_of g ++ encodings gs) ++ replicate z 0 ≡ low_bits 4 (mode_of g) ++ (body_of g ++ x) = rw (encoding_parts g) (simp append_assoc) in
    rw (e, opened k (mode_of g) (body_of g ++ x) m.0 m.1, segment_back g x l.0 a.0, drop_at (body_of g) x (length (body_of g)) refl)
    (rw r.0, r.1)
