-- The data bytes of segments: as many as asked for, and their bits are those of the segments with zeros behind.
use Rattle.general.proofs.Names.{◌≡◌, ap, ◌∙◌, sym, Bool, true, false, cond, List, [], ◌∷◌, ◌++◌, flat_map, ℕ, zero, suc, ◌-◌, ◌*◌, ◌/◌, ◌%◌, ◌^◌, ◌<◌, ◌≤◌}
use Rattle.general.proofs.Names.{arith, eqb, ltb, length, get_or, replicate, length-append, length-replicate}
use Rattle.bits.specs.Bits.{low_bits, bits_of, word_bits}
use Rattle.bits.proofs.Reading.{length_bits}
use Rattle.bits.proofs.Words.{length_low}
use Rattle.bits.proofs.Bytes.{bits_words}
use Rattle.segments.specs.Script.{Segment, run, eci}
use Rattle.script.specs.Writer.{numeric_words, text_words, region_words, double_words, four_code, eci_bits, mode_bits, encoding_of, encodings, data_bytes}
use Rattle.script.proofs.Tests.{small_cons}

-- a list of bits
abbrev Small : List ℕ → Type 0
Small xs = (i : ℕ) → get_or xs i 0 < 2

low_small : (n v : ℕ) → Small (low_bits n v)
unfolding low_bits
low_small zero v = λ i. omega arith
low_small (suc n) v = small_cons (v / 2 ^ n % 2) 2 (low_bits n v) (omega arith) (low_small n v)

append_small : (xs ys : List ℕ) → Small xs → Small ys → Small (xs ++ ys)
append_small [] ys h g = g
append_small (x ∷ xs) ys h g = small_cons x 2 (xs ++ ys) (h 0) (append_small xs ys (λ i. h (suc i)) g)

words_small : (w : ℕ) (vs : List ℕ) → Small (word_bits w vs)
unfolding word_bits flat_map
words_small w [] = λ i. omega arith
words_small w (v ∷ vs) = append_small (low_bits w v) (word_bits w vs) (low_small w v) (words_small w vs)

zeros_small : (n : ℕ) → Small (replicate n 0)
zeros_small zero = λ i. omega arith
zeros_small (suc n) = small_cons 0 2 (replicate n 0) (omega arith) (zeros_small n)

cond_small : (b : Bool) (xs ys : List ℕ) → Small xs → Small ys → Small (cond b xs ys)
cond_small true xs ys h g = h
cond_small false xs ys h g = g

encoding_small : (g : Segment) → Small (encoding_of g)
unfolding mode_bits eci_bits
encoding_small (run mode bs) =
    append_small (low_bits 4 mode) (mode_bits mode bs) (low_small 4 mode)
    (cond_small (eqb mode 1) (word_bits 10 (numeric_words bs)) _ (words_small 10 (numeric_words bs))
    (cond_small (eqb mode 2) (word_bits 6 (text_words true bs)) _ (words_small 6 (text_words true bs))
    (cond_small (eqb mode 3) (low_bits 13 (length bs) ++ word_bits 8 bs) _
    (append_small (low_bits 13 (length bs)) (word_bits 8 bs) (low_small 13 (length bs)) (words_small 8 bs))
    (cond_small (eqb mode 4) (word_bits 12 (region_words true bs)) _ (words_small 12 (region_words true bs))
    (cond_small (eqb mode 5) (word_bits 12 (region_words false bs)) _ (words_small 12 (region_words false bs))
    (cond_small (eqb mode 6) (word_bits 15 (double_words bs)) (low_bits 21 (four_code bs)) (words_small 15 (double_words bs)) (low_small 21 (four_code bs))))))))
encoding_small (eci v) =
    append_small (low_bits 4 8) (eci_bits v) (low_small 4 8)
    (cond_small (ltb v 128) (0 ∷ low_bits 7 v) _ (small_cons 0 2 (low_bits 7 v) (omega arith) (low_small 7 v))
    (cond_small (ltb v 16384) (1 ∷ 0 ∷ low_bits 14 v) (1 ∷ 1 ∷ 0 ∷ low_bits 21 v)
    (small_cons 1 2 (0 ∷ low_bits 14 v) (omega arith) (small_cons 0 2 (low_bits 14 v) (omega arith) (low_small 14 v)))
    (small_cons 1 2 (1 ∷ 0 ∷ low_bits 21 v) (omega arith) (small_cons 1 2 (0 ∷ low_bits 21 v) (omega arith)
    (small_cons 0 2 (low_bits 21 v) (omega arith) (low_small 21 v))))))

encodings_small : (gs : List Segment) → Small (encodings gs)
unfolding encodings flat_map
encodings_small [] = λ i. omega arith
encodings_small (g ∷ gs) = append_small (encoding_of g) (encodings gs) (encoding_small g) (encodings_small gs)

-- the bits of the data bytes
abbrev pub padded_bits : ℕ → List Segment → List ℕ
padded_bits n gs = encodings gs ++ replicate (8 * n - length (encodings gs)) 0

pub padded_length : (n : ℕ) (gs : List Segment) → length (encodings gs) ≤ 8 * n → length (padded_bits n gs) ≡ 8 * n
padded_length n gs h = length-append (encodings gs) (replicate (8 * n - length (encodings gs)) 0) ∙ rw length-replicate (omega arith)

pub padded_small : (n : ℕ) (gs : List Segment) → (i : ℕ) → get_or (padded_bits n gs) i 0 < 2
padded_small n gs =
    append_small (encodings gs) (replicate (8 * n - length (encodings gs)) 0) (encodings_small gs) (zeros_small (8 * n - length (encodings gs)))

pub data_bits : (n : ℕ) (gs : List Segment) → length (encodings gs) ≤ 8 * n → bits_of (data_bytes n gs) ≡ padded_bits n gs
data_bits n gs h =
    bits_words n (padded_bits n gs) (padded_length n gs h) (padded_small n gs)

pub data_length : (n : ℕ) (gs : List Segment) → length (encodings gs) ≤ 8 * n → length (data_bytes n gs) ≡ n
data_length n gs h =
    let e : 8 * length (data_bytes n gs) ≡ 8 * n = sym (length_bits (data_bytes n gs)) ∙ ap length (data_bits n gs h) ∙ padded_length n gs h in
    omega arith

-- each segment has bits
pub count_bits : (gs : List Segment) → length gs ≤ length (encodings gs)
unfolding encodings flat_map
count_bits [] = omega arith
count_bits (g ∷ gs) = let h = count_bits gs in let k = four g in omega (arith, length-append (encoding_of g) (encodings gs))
  where
    four : (g : Segment) → 4 ≤ length (encoding_of g)
    four (run mode bs) = omega (arith, length-append (low_bits 4 mode) (mode_bits mode bs), length_low 4 mode)
    four (eci v) = omega (arith, length-append (low_bits 4 8) (eci_bits v), length_low 4 8)
