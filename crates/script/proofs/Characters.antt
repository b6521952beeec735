-- Bytes and pairs that are written in text mode, the regions and the two-byte mode are read back.
use Rattle.general.proofs.Names.{◌≡◌, refl, Bool, true, false, not, List, [], ◌∷◌, ◌++◌, ℕ, ◌+◌, ◌/◌, ◌<◌, ◌≤◌, arith, ne_eqb, lt-ltb}
use Rattle.general.proofs.Names.{length, get_or}
use Rattle.segments.specs.Segments.{got, before, char_of, text_of, high_of, low_of, region_size, region_of, double_byte_of}
use Rattle.script.specs.Writer.{all_pairs, code_of, in_subset, in_text, text_words, pair_code, in_region, in_regions, region_words, double_code}
use Rattle.script.specs.Writer.{in_double, double_words}
use Rattle.script.specs.Lengths.{text_switches, region_switches}
use Rattle.general.proofs.Choices.{tested, chosen}
use Rattle.script.proofs.Tests.{both, false_true, subset_has, other_subset, region_has, other_region, double_has, small_cons}
use Rattle.general.specs.Lists.{all}

-- ---- text

text_char : (f : Bool) (c b : ℕ) (ws : List ℕ) → c < 62 → char_of f c ≡ b → text_of f (c ∷ ws) ≡ before (b ∷ []) (text_of f ws)
unfolding text_of
text_char f c b ws h e = rw (ne_eqb c 63 (omega arith), ne_eqb c 62 (omega arith), e)

pub text_back : (f : Bool) (bs ws : List ℕ) → all in_text bs ≡ true → text_of f (text_words f bs ++ ws) ≡ got bs (length (text_words f bs))
unfolding text_words text_of
text_back f [] ws h = refl
text_back f (b ∷ bs) ws h =
    let t = both (in_text b) (all in_text bs) h in
    tested (in_subset f b)
    (λ e. let c = subset_has f b e in rw (e, text_char f (code_of f b) b (text_words f bs ++ ws) c.0 c.1, text_back f bs ws t.1))
    (λ e. let c = subset_has (not f) b (other_subset f b t.0 e) in
    rw (e, text_char (not f) (code_of (not f) b) b (text_words (not f) bs ++ ws) c.0 c.1, text_back (not f) bs ws t.1))

pub text_small : (f : Bool) (bs : List ℕ) → all in_text bs ≡ true → (i : ℕ) → get_or (text_words f bs) i 0 < 64
unfolding text_words
text_small f [] h = small_cons 63 64 [] (omega arith) (λ i. omega arith)
text_small f (b ∷ bs) h =
    let t = both (in_text b) (all in_text bs) h in
    chosen (λ ws. (i : ℕ) → get_or ws i 0 < 64) (in_subset f b)
    (λ e. let c = subset_has f b e in small_cons (code_of f b) 64 (text_words f bs) (omega arith) (text_small f bs t.1))
    (λ e. let c = subset_has (not f) b (other_subset f b t.0 e) in
    let ws : List ℕ = text_words (not f) bs in
    small_cons 62 64 (code_of (not f) b ∷ ws) (omega arith) (small_cons (code_of (not f) b) 64 ws (omega arith) (text_small (not f) bs t.1)))

pub text_length : (f : Bool) (bs : List ℕ) → length (text_words f bs) ≡ 1 + (length bs + text_switches f bs)
unfolding text_words text_switches
text_length f [] = refl
text_length f (b ∷ bs) =
    let x = text_length f bs in
    let y = text_length (not f) bs in
    tested (in_subset f b) (λ e. rw e (omega arith)) (λ e. rw e (omega arith))

-- ---- regions

below : (f : Bool) → region_size f ≤ 4074
unfolding region_size
below true = omega arith
below false = omega arith

region_pair : (f : Bool) (c a b : ℕ) (ws : List ℕ) → c < region_size f → high_of f c ≡ a → low_of f c ≡ b
    → region_of f (c ∷ ws) ≡ before (a ∷ b ∷ []) (region_of f ws)
unfolding region_of
region_pair f c a b ws h e g =
    let l = below f in
    rw (ne_eqb c 4095 (omega arith), ne_eqb c 4094 (omega arith), lt-ltb c (region_size f) h, e, g)

pub region_back : (f : Bool) (bs ws : List ℕ) → all_pairs in_regions bs ≡ true
    → region_of f (region_words f bs ++ ws) ≡ got bs (length (region_words f bs))
unfolding region_words region_of
region_back f [] ws h = refl
region_back f (a ∷ []) ws h = absurd (false_true h)
region_back f (a ∷ b ∷ bs) ws h =
    let t = both (in_regions a b) (all_pairs in_regions bs) h in
    tested (in_region f a b)
    (λ e. let c = region_has f a b e in rw (e, region_pair f (pair_code f a b) a b (region_words f bs ++ ws) c.0 c.1 c.2, region_back f bs ws t.1))
    (λ e. let c = region_has (not f) a b (other_region f a b t.0 e) in
    rw (e, region_pair (not f) (pair_code (not f) a b) a b (region_words (not f) bs ++ ws) c.0 c.1 c.2, region_back (not f) bs ws t.1))

pub region_small : (f : Bool) (bs : List ℕ) → all_pairs in_regions bs ≡ true → (i : ℕ) → get_or (region_words f bs) i 0 < 4096
unfolding region_words
region_small f [] h = small_cons 4095 4096 [] (omega arith) (λ i. omega arith)
region_small f (a ∷ []) h = absurd (false_true h)
region_small f (a ∷ b ∷ bs) h =
    let t = both (in_regions a b) (all_pairs in_regions bs) h in
    chosen (λ ws. (i : ℕ) → get_or ws i 0 < 4096) (in_region f a b)
    (λ e. let c = region_has f a b e in small_cons (pair_code f a b) 4096 (region_words f bs) (omega (arith, below f)) (region_small f bs t.1))
    (λ e. let c = region_has (not f) a b (other_region f a b t.0 e) in
    let c' : ℕ = pair_code (not f) a b in
    small_cons 4094 4096 (c' ∷ region_words (not f) bs) (omega arith)
    (small_cons c' 4096 (region_words (not f) bs) (omega (arith, below (not f))) (region_small (not f) bs t.1)))

pub region_length : (f : Bool) (bs : List ℕ) → all_pairs in_regions bs ≡ true → length (region_words f bs) ≡ 1 + (length bs / 2 + region_switches f bs)
unfolding region_words region_switches
region_length f [] h = refl
region_length f (a ∷ []) h = absurd (false_true h)
region_length f (a ∷ b ∷ bs) h =
    let t = both (in_regions a b) (all_pairs in_regions bs) h in
    let x = region_length f bs t.1 in
    let y = region_length (not f) bs t.1 in
    tested (in_region f a b) (λ e. rw e (omega arith)) (λ e. rw e (omega arith))

-- ---- two-byte

pub double_back : (bs ws : List ℕ) → all_pairs in_double bs ≡ true → double_byte_of (double_words bs ++ ws) ≡ got bs (length (double_words bs))
unfolding double_words double_byte_of
double_back [] ws h = refl
double_back (a ∷ []) ws h = absurd (false_true h)
double_back (a ∷ b ∷ bs) ws h =
    let t = both (in_double a b) (all_pairs in_double bs) h in
    let c = double_has a b t.0 in
    rw (ne_eqb (double_code a b) 32767 (omega arith), lt-ltb (double_code a b) 23940 c.0, c.1, c.2, double_back bs ws t.1)

pub double_small : (bs : List ℕ) → all_pairs in_double bs ≡ true → (i : ℕ) → get_or (double_words bs) i 0 < 32768
unfolding double_words
double_small [] h = small_cons 32767 32768 [] (omega arith) (λ i. omega arith)
double_small (a ∷ []) h = absurd (false_true h)
double_small (a ∷ b ∷ bs) h =
    let t = both (in_double a b) (all_pairs in_double bs) h in
    let c = double_has a b t.0 in
    small_cons (double_code a b) 32768 (double_words bs) (omega arith) (double_small bs t.1)

pub double_length : (bs : List ℕ) → all_pairs in_double bs ≡ true → length (double_words bs) ≡ 1 + length bs / 2
unfolding double_words
double_length [] h = refl
double_length (a ∷ []) h = absurd (false_true h)
double_length (a ∷ b ∷ bs) h =
    let k = double_length bs (both (in_double a b) (all_pairs in_double bs) h).1 in
    omega arith
