-- What a word that was read does to the state of a mode: one law for each way that a turn of a mode's function goes.
use Rattle.general.proofs.Names.{◌≡◌, refl, ap, ◌∙◌, Bool, not, List, [], ◌∷◌, ◌++◌, ℕ, zero, suc, ◌+◌, ◌-◌, ◌*◌, ◌/◌, ◌%◌, ◌^◌, ◌<◌, ◌≤◌, add-zero, dec_lt, ltb, length-drop, take, cond}
use Rattle.general.proofs.Names.{mul-suc, one-mul, mul-one, arith, eq-eqb, ne_eqb, lt-ltb, le-ltb, length, drop, set, length-append, sets, drop-drop}
use Rattle.bits.specs.declared.Word.{Word}
use Rattle.bits.specs.declared.Word.TheVariants.{Value, Cut as WordCut}
use Rattle.bits.specs.Bits.{bits_of, read_bits, words, first_words, groups, value}
use Rattle.bits.proofs.Reading.{length_left}
use Rattle.bits.proofs.Words.{WordAt, word_read, word_cut, sets_append, words_none, words_more}
use Rattle.segments.specs.Segments.{cut, lacking, Result, failed, got, before, in_bits, digits, groups_of, numeric_of, char_of, text_of}
use Rattle.segments.specs.Segments.{bytes_mode, high_of, low_of, region_size, region_of, first_byte, second_byte, double_byte_of, four_bytes}
use Rattle.segments.specs.Segments.{four_byte_of}
use Rattle.segments.specs.declared.Count.{Count}
use Rattle.segments.specs.declared.Count.TheVariants.{Done, Cut, Lacking}
use Rattle.segments.specs.Positions.{State, stopped, Inside, at, behind, bytes_run_at, bytes_at, four_byte_at, bytes_run}

-- one word and the bytes that it gives
behind_before : (w i n : ℕ) (o cs : List ℕ) (p : Result (List ℕ)) → behind w i n o (before cs p) ≡ behind w (i + w) (n + length cs) (sets o n cs) p
behind_before w i n o cs (failed bad) = refl
behind_before w i n o cs (got bs u) =
    let e : i + w * suc u ≡ i + w + w * u = rw mul-suc (omega arith) in
    let g : n + length (cs ++ bs) ≡ n + length cs + length bs = rw length-append (omega arith) in
    rw (e, g, sets_append o n cs bs)

-- words counted in bits
pub behind_bits : (w i n : ℕ) (o : List ℕ) (p : Result (List ℕ)) → behind 1 i n o (in_bits w p) ≡ behind w i n o p
behind_bits w i n o (failed bad) = refl
behind_bits w i n o (got bs u) = rw one-mul

-- ---- modes of words, a word at a time

-- the state `whole` of a mode is what f makes of the words of w bits from the position i on, with n bytes in the buffer o
pub record Remains (w : ℕ) (whole : State) (s : List ℕ) (from to i n : ℕ) (o : List ℕ) (f : List ℕ → Result (List ℕ)) : Type 0 where
  pub past : from ≤ i
  pub room : i ≤ 8 * length s
  pub more : to ≤ n
  pub few : n ≤ i
  pub same : whole ≡ behind w i n o (f (words w (drop i (bits_of s))))

pub remains_start : {w : ℕ} {s : List ℕ} {from to : ℕ} {o : List ℕ} {f : List ℕ → Result (List ℕ)} → from ≤ 8 * length s → to ≤ from
    → Remains w (behind w from to o (f (words w (drop from (bits_of s))))) s from to from to o f
remains_start h l = record { past = omega arith; room = h; more = omega arith; few = l; same = refl }

module _ {w : ℕ} {whole : State} {s : List ℕ} {from to i n : ℕ} {o : List ℕ} {f : List ℕ → Result (List ℕ)}
    (d : Remains w whole s from to i n o f) where
  -- what `read_bits` answers: no word is left, or a word
  pub remains_cut : {r : Word} → r ≡ read_bits w (drop i (bits_of s)) → r ≡ WordCut → f [] ≡ failed cut → whole ≡ stopped cut
  remains_cut {r} e h g = d.same ∙ rw (word_cut w i s r e h, g)

  pub remains_word : {r : Word} {v : ℕ} → r ≡ read_bits w (drop i (bits_of s)) → 0 < w → r ≡ Value v → WordAt w i v s
  remains_word {r} {v} e p h = word_read w i s r e v p d.room h

  -- the word v is next
  module _ {v : ℕ} (r : WordAt w i v s) where
    abbrev later : List ℕ
    later = words w (drop (i + w) (bits_of s))

    pub remains_lacks : ((ws : List ℕ) → f (v ∷ ws) ≡ failed lacking) → whole ≡ stopped lacking
    remains_lacks g = d.same ∙ rw (r.next, g later)

    pub remains_end : (bs : List ℕ) → ((ws : List ℕ) → f (v ∷ ws) ≡ got bs 1) → whole ≡ at (i + w) (n + length bs) (sets o n bs)
    remains_end bs g = d.same ∙ rw (r.next, g later, mul-one)

    pub remains_stop : ((ws : List ℕ) → f (v ∷ ws) ≡ got [] 1) → whole ≡ at (i + w) n o
    remains_stop g = remains_end [] g ∙ rw add-zero

    pub remains_on : (cs : List ℕ) (g : List ℕ → Result (List ℕ)) {o' : List ℕ} → ((ws : List ℕ) → f (v ∷ ws) ≡ before cs (g ws))
        → length cs ≤ w → o' ≡ sets o n cs
        → Remains w whole s from to (i + w) (n + length cs) o' g
    remains_on cs g e l q =
        record {
          past = omega arith;
          room = r.room;
          more = omega arith;
          few = omega arith;
          same = rw q (d.same ∙ rw (r.next, e later) (behind_before w i n o cs (g later)));
        }

    pub remains_none : (g : List ℕ → Result (List ℕ)) → ((ws : List ℕ) → f (v ∷ ws) ≡ before [] (g ws))
        → Remains w whole s from to (i + w) n o g
    remains_none g e = rw add-zero at (remains_on [] g e (omega arith) refl)

-- ---- what each mode makes of a word w

pub length_digits : (k v : ℕ) → length (digits k v) ≡ k
unfolding digits
length_digits zero v = refl
length_digits (suc k) v = ap suc (length_digits k v)

module _ {w : ℕ} where
  pub numeric_lacks : 1000 ≤ w → (ws : List ℕ) → numeric_of (w ∷ ws) ≡ failed lacking
  unfolding numeric_of
  numeric_lacks h ws = rw (le-ltb w 1000 h)

  pub numeric_first : w < 1000 → (ws : List ℕ) → numeric_of (w ∷ ws) ≡ before [] (groups_of w ws)
  unfolding numeric_of
  numeric_first h ws = rw (lt-ltb w 1000 h)

  module _ (p : ℕ) where
    pub groups_more : w < 1000 → (ws : List ℕ) → groups_of p (w ∷ ws) ≡ before (digits 3 p) (groups_of w ws)
    unfolding groups_of
    groups_more h ws = rw (lt-ltb w 1000 h)

    pub groups_lack : 1000 ≤ w → w ≤ 1020 → (ws : List ℕ) → groups_of p (w ∷ ws) ≡ failed lacking
    unfolding groups_of
    groups_lack h g ws = rw (le-ltb w 1000 h, le-ltb 1020 w g)

    pub groups_large : 1000 ≤ w → 1020 < w → 10 ^ (w - 1020) ≤ p → (ws : List ℕ) → groups_of p (w ∷ ws) ≡ failed lacking
    unfolding groups_of
    groups_large h g l ws = rw (le-ltb w 1000 h, lt-ltb 1020 w g, le-ltb p (10 ^ (w - 1020)) l)

    pub groups_end : 1000 ≤ w → 1020 < w → p < 10 ^ (w - 1020) → (ws : List ℕ) → groups_of p (w ∷ ws) ≡ got (digits (w - 1020) p) 1
    unfolding groups_of
    groups_end h g l ws = rw (le-ltb w 1000 h, lt-ltb 1020 w g, lt-ltb p (10 ^ (w - 1020)) l)

  module _ (f : Bool) where
    pub text_end : w ≡ 63 → (ws : List ℕ) → text_of f (w ∷ ws) ≡ got [] 1
    unfolding text_of
    text_end e ws = rw (eq-eqb w 63 e)

    pub text_switch : (w ≡ 63 → ⊥) → w ≡ 62 → (ws : List ℕ) → text_of f (w ∷ ws) ≡ before [] (text_of (not f) ws)
    unfolding text_of
    text_switch h e ws = rw (ne_eqb w 63 h, eq-eqb w 62 e)

    pub text_byte : (w ≡ 63 → ⊥) → (w ≡ 62 → ⊥) → (ws : List ℕ) → text_of f (w ∷ ws) ≡ before (char_of f w ∷ []) (text_of f ws)
    unfolding text_of
    text_byte h e ws = rw (ne_eqb w 63 h, ne_eqb w 62 e)

    pub region_end : w ≡ 4095 → (ws : List ℕ) → region_of f (w ∷ ws) ≡ got [] 1
    unfolding region_of
    region_end e ws = rw (eq-eqb w 4095 e)

    pub region_switch : (w ≡ 4095 → ⊥) → w ≡ 4094 → (ws : List ℕ) → region_of f (w ∷ ws) ≡ before [] (region_of (not f) ws)
    unfolding region_of
    region_switch h e ws = rw (ne_eqb w 4095 h, eq-eqb w 4094 e)

    pub region_lacks : (w ≡ 4095 → ⊥) → (w ≡ 4094 → ⊥) → region_size f ≤ w → (ws : List ℕ) → region_of f (w ∷ ws) ≡ failed lacking
    unfolding region_of
    region_lacks h g l ws = rw (ne_eqb w 4095 h, ne_eqb w 4094 g, le-ltb w (region_size f) l)

    pub region_pair : (w ≡ 4095 → ⊥) → (w ≡ 4094 → ⊥) → w < region_size f → (ws : List ℕ)
        → region_of f (w ∷ ws) ≡ before (high_of f w ∷ low_of f w ∷ []) (region_of f ws)
    unfolding region_of
    region_pair h g l ws = rw (ne_eqb w 4095 h, ne_eqb w 4094 g, lt-ltb w (region_size f) l)

  pub double_end : w ≡ 32767 → (ws : List ℕ) → double_byte_of (w ∷ ws) ≡ got [] 1
  unfolding double_byte_of
  double_end e ws = rw (eq-eqb w 32767 e)

  pub double_lacks : (w ≡ 32767 → ⊥) → 23940 ≤ w → (ws : List ℕ) → double_byte_of (w ∷ ws) ≡ failed lacking
  unfolding double_byte_of
  double_lacks h l ws = rw (ne_eqb w 32767 h, le-ltb w 23940 l)

  pub double_pair : (w ≡ 32767 → ⊥) → w < 23940 → (ws : List ℕ)
      → double_byte_of (w ∷ ws) ≡ before (first_byte w ∷ second_byte w ∷ []) (double_byte_of ws)
  unfolding double_byte_of
  double_pair h l ws = rw (ne_eqb w 32767 h, lt-ltb w 23940 l)

-- a run of k bytes, of which i are read
pub bytes_run_more : (w k i : ℕ) → i < k → (ws : List ℕ) → bytes_run (k - i) (w ∷ ws) ≡ before (w ∷ []) (bytes_run (k - (i + 1)) ws)
unfolding bytes_run
bytes_run_more w k i h ws = let e : k - i ≡ suc (k - (i + 1)) = omega arith in rw e

pub bytes_run_cut : (k i : ℕ) → i < k → bytes_run (k - i) [] ≡ failed cut
unfolding bytes_run
bytes_run_cut k i h = let e : k - i ≡ suc (k - (i + 1)) = omega arith in rw e

pub bytes_run_done : {whole : State} {s : List ℕ} {from to i n : ℕ} {o : List ℕ} (k j : ℕ) → Remains 8 whole s from to i n o (bytes_run (k - j))
    → k ≤ j → whole ≡ at i n o
unfolding bytes_run
bytes_run_done k j d h = let e : k - j ≡ 0 = omega arith in d.same ∙ rw (e, add-zero, add-zero)

-- a turn of `push_digits`
pub digits_more : (o : List ℕ) (n k i v : ℕ) → i < k
    → sets o (n + i) (digits (k - i) v) ≡ sets (set o (n + i) (48 + v / 10 ^ (k - 1 - i) % 10)) (n + (i + 1)) (digits (k - (i + 1)) v)
unfolding digits
digits_more o n k i v h =
    let m : k - i ≡ suc (k - (i + 1)) = omega arith in
    let p : n + (i + 1) ≡ suc (n + i) = omega arith in
    let q : k - 1 - i ≡ k - (i + 1) = omega arith in
    rw (m, p, q)

pub digits_all : (o : List ℕ) (j k i v : ℕ) → k ≤ i → sets o j (digits (k - i) v) ≡ o
unfolding digits
digits_all o j k i v h = let z : k - i ≡ 0 = omega arith in rw z

-- ---- bytes

module _ (s : List ℕ) (i n : ℕ) (o : List ℕ) where
  pub bytes_cut : length (drop i (bits_of s)) < 13 → bytes_at s i n o ≡ stopped cut
  unfolding bytes_mode
  bytes_cut h =
      let k = value 0 (take 13 (drop i (bits_of s))) in
      rw (lt-ltb (length (drop i (bits_of s))) (13 + 8 * k) (omega arith))

  pub four_cut : length (drop i (bits_of s)) < 21 → four_byte_at s i n o ≡ stopped cut
  unfolding four_byte_of
  four_cut h = rw (lt-ltb (length (drop i (bits_of s))) 21 h)

-- the words one after the other are those of the definition
run_words : (n : ℕ) (ds : List ℕ) → bytes_run n (words 8 ds) ≡ cond (ltb (length ds) (8 * n)) (failed cut) (got (first_words 8 n ds) n)
unfolding bytes_run first_words groups
run_words zero ds = rw (le-ltb (length ds) 0 (omega arith))
run_words (suc n) ds = elim (dec_lt (length ds) 8) [
  | yes h ↦ rw (words_none 8 ds h, lt-ltb (length ds) (8 * suc n) (omega arith))
  | no h ↦
      let l = length-drop 8 ds in
      rw (words_more 8 ds (omega arith) (omega arith), run_words n (drop 8 ds)) (elim (dec_lt (length (drop 8 ds)) (8 * n)) [
        | yes g ↦ rw (lt-ltb (length (drop 8 ds)) (8 * n) g, lt-ltb (length ds) (8 * suc n) (omega arith))
        | no g ↦ rw (le-ltb (length (drop 8 ds)) (8 * n) (omega arith), le-ltb (length ds) (8 * suc n) (omega arith))
      ])
]

pub bytes_length : (s : List ℕ) (i n : ℕ) (o : List ℕ) (k : ℕ) → WordAt 13 i k s → bytes_at s i n o ≡ bytes_run_at s (i + 13) n o k
unfolding bytes_mode
bytes_length s i n o k r =
    let ds : List ℕ = drop (i + 13) (bits_of s) in
    let l = length_left s i in
    let l' = length_left s (i + 13) in
    let z : i + 1 * (13 + 8 * k) ≡ i + 13 + 8 * k = omega arith in
    rw (← r.is, drop-drop 13 i (bits_of s), run_words k ds) (elim (dec_lt (length ds) (8 * k)) [
      | yes h ↦ rw (lt-ltb (length ds) (8 * k) h, lt-ltb (length (drop i (bits_of s))) (13 + 8 * k) (omega arith))
      | no h ↦ rw (le-ltb (length ds) (8 * k) (omega arith), le-ltb (length (drop i (bits_of s))) (13 + 8 * k) (omega arith), z)
    ])

-- ---- four-byte

module _ (s : List ℕ) (i n : ℕ) (o : List ℕ) (w : ℕ) (r : WordAt 21 i w s) where
  pub four_lacks : 1587600 ≤ w → four_byte_at s i n o ≡ stopped lacking
  unfolding four_byte_of
  four_lacks l =
      rw (le-ltb (length (drop i (bits_of s))) 21 (omega (arith, length_left s i)), ← r.is, le-ltb w 1587600 l)

  pub four_end : w < 1587600 → four_byte_at s i n o ≡ at (i + 21) (n + 4) (sets o n (four_bytes w))
  unfolding four_byte_of four_bytes
  four_end l =
      rw (le-ltb (length (drop i (bits_of s))) 21 (omega (arith, length_left s i)), ← r.is, lt-ltb w 1587600 l)

-- an answer behind a later place
pub longer_inside : (s : List ℕ) (from to k : ℕ) (r : Count) → Inside s (from + k) to r → Inside s from to r
longer_inside s from to k (Done i n) h = (omega arith, h.1, h.2, h.3)
longer_inside s from to k Cut h = tt
longer_inside s from to k Lacking h = tt
