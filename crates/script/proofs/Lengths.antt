-- The number of bits of segments is what the formulas of SPECIFICATION 9.4 say.
use Rattle.general.proofs.Names.{◌≡◌, refl, ◌∙◌, Bool, true, false, cond, List, [], ◌∷◌, flat_map, ℕ, ◌+◌, arith, ltb, eqb, length, length-append}
use Rattle.bits.specs.Bits.{low_bits, word_bits}
use Rattle.bits.proofs.Words.{length_low, length_words}
use Rattle.segments.specs.Script.{Segment, run, eci}
use Rattle.script.specs.Writer.{numeric_words, text_words, region_words, double_words, eci_bits, mode_has, mode_bits, has, encoding_of, encodings}
use Rattle.script.specs.Lengths.{mode_length, eci_length, bits_of_segment, bits_of_segments}
use Rattle.script.proofs.Tests.{both}
use Rattle.script.proofs.Digits.{numeric_length}
use Rattle.script.proofs.Characters.{text_length, region_length, double_length}
use Rattle.script.specs.Inner.{all_have}

-- one mode before the others: x says that it is this one
either : (x h k : Bool) (xs ys : List ℕ) (m n : ℕ) → cond x h k ≡ true → (h ≡ true → 4 + length xs ≡ m) → (k ≡ true → 4 + length ys ≡ n)
    → 4 + length (cond x xs ys) ≡ cond x m n
either true h k xs ys m n e f g = f e
either false h k xs ys m n e f g = g e

mode_length_lem : (mode : ℕ) (bs : List ℕ) → mode_has mode bs ≡ true → 4 + length (mode_bits mode bs) ≡ mode_length mode bs
unfolding mode_has mode_bits mode_length
mode_length_lem mode bs h =
    either (eqb mode 1) _ _ _ _ _ _ h (λ h. rw (length_words 10 (numeric_words bs), numeric_length bs) (omega arith))
    (λ h. either (eqb mode 2) _ _ _ _ _ _ h (λ h. rw (length_words 6 (text_words true bs), text_length true bs) (omega arith))
    (λ h. either (eqb mode 3) _ _ _ _ _ _ h (λ h. rw (length-append (low_bits 13 (length bs)) (word_bits 8 bs), length_low, length_words) (omega arith))
    (λ h. either (eqb mode 4) _ _ _ _ _ _ h (λ h. rw (length_words 12 (region_words true bs), region_length true bs h) (omega arith))
    (λ h. either (eqb mode 5) _ _ _ _ _ _ h (λ h. rw (length_words 12 (region_words false bs), region_length false bs h) (omega arith))
    (λ h. either (eqb mode 6) _ _ _ _ _ _ h (λ h. rw (length_words 15 (double_words bs), double_length bs h) (omega arith)) (λ h. rw length_low))))))

eci_length_lem : (v : ℕ) → 4 + length (eci_bits v) ≡ eci_length v
unfolding eci_bits eci_length
eci_length_lem v = go (ltb v 128) (ltb v 16384)
  where
    go : (a b : Bool)
        → 4 + length (cond a (0 ∷ low_bits 7 v) (cond b (1 ∷ 0 ∷ low_bits 14 v) (1 ∷ 1 ∷ 0 ∷ low_bits 21 v))) ≡ cond a 12 (cond b 20 28)
    go true b = rw length_low
    go false true = rw length_low
    go false false = rw length_low

segment_length : (g : Segment) → has g ≡ true → length (encoding_of g) ≡ bits_of_segment g
segment_length (run mode bs) h = rw (length-append (low_bits 4 mode) (mode_bits mode bs), length_low) (mode_length_lem mode bs h)
segment_length (eci v) h = rw (length-append (low_bits 4 8) (eci_bits v), length_low) (eci_length_lem v)

pub encodings_length : (gs : List Segment) → all_have gs ≡ true → length (encodings gs) ≡ bits_of_segments gs
unfolding encodings bits_of_segments flat_map
encodings_length [] h = refl
encodings_length (g ∷ gs) h =
    let a = both (has g) (all_have gs) h in
    length-append (encoding_of g) (encodings gs) ∙ rw (segment_length g a.0, encodings_length gs a.1)
