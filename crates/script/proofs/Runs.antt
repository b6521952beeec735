-- Runs of characters, word by word.
use Rattle.general.proofs.Names.{◌≡◌, refl, ap, ◌∙◌, sym, Bool, true, false, cond, not, ◌&&◌, List, [], ◌∷◌, ℕ, zero, suc, ◌+◌, ◌-◌, ◌*◌, ◌/◌, ◌%◌}
use Rattle.general.proofs.Names.{◌<◌, ◌≤◌, mul-le-mul, le_of_lt, add-one, arith, eq-eqb, ne_eqb, lt-ltb, le-ltb, lt-leb, le-leb, eqb}
use Rattle.general.proofs.Names.{ltb, length, get_or, drop, length-drop, drop_of_length-le, drop-cons, drop-drop, dec_lt}
use Rattle.segments.specs.Segments.{four_bytes}
use Rattle.script.specs.declared.Character.{Character}
use Rattle.script.specs.declared.Character.TheVariants.{Same, Other, Lacking}
use Rattle.script.specs.declared.Cost.TheVariants.{Takes, NotInMode}
use Rattle.script.specs.Writer.{all_pairs, is_digit, in_subset, in_text, in_region, in_regions, in_double}
use Rattle.script.specs.Writer.{text_words, region_words, double_words, four_code, same, in_four, mode_has}
use Rattle.script.specs.Lengths.{mode_length}
use Rattle.script.specs.Characters.{words_of, has_all, step_of, width_of, switch_of, end_of, text_character, region_character, double_character}
use Rattle.script.specs.Characters.{CharacterIs, begins_in, char_cost, cost_of}
use mathlib.Core.Bool.{and-true, and_assoc}
use Rattle.general.proofs.Choices.{tested, chosen}
use Rattle.script.proofs.Tests.{both, same_is, either_is}
use Rattle.script.proofs.Characters.{text_length, region_length, double_length}
use Rattle.general.specs.Lists.{all}

-- ---- the character at the front

text_front : (f : Bool) (b : ℕ) (bs : List ℕ) → CharacterIs 2 f (b ∷ bs) (text_character f b)
unfolding words_of has_all step_of switch_of text_character text_words in_text
text_front f b bs =
    let t = either_is (λ g. in_subset g b) f in
    chosen (CharacterIs 2 f (b ∷ bs)) (in_subset f b) (λ p. (rw p, rw (t, p), omega arith))
    (λ p. chosen (CharacterIs 2 f (b ∷ bs)) (in_subset (not f) b) (λ q. (rw p, rw (t, p, q), omega arith)) (λ q. rw (t, p, q)))

region_front : (mode : ℕ) (f : Bool) (a b : ℕ) (bs : List ℕ) → (mode ≡ 2 → ⊥) → (mode ≡ 6 → ⊥)
    → CharacterIs mode f (a ∷ b ∷ bs) (region_character f a b)
unfolding words_of has_all step_of switch_of region_character region_words in_regions
region_front mode f a b bs n2 n6 =
    let e2 = ne_eqb mode 2 n2 in
    let e6 = ne_eqb mode 6 n6 in
    let t = either_is (λ g. in_region g a b) f in
    chosen (CharacterIs mode f (a ∷ b ∷ bs)) (in_region f a b) (λ p. (rw (e2, e6, p), rw (e2, e6, t, p), rw e2 (omega arith)))
    (λ p. chosen (CharacterIs mode f (a ∷ b ∷ bs)) (in_region (not f) a b) (λ q. (rw (e2, e6, p), rw (e2, e6, t, p, q), rw e2 (omega arith)))
    (λ q. rw (e2, e6, t, p, q)))

double_front : (f : Bool) (a b : ℕ) (bs : List ℕ) → CharacterIs 6 f (a ∷ b ∷ bs) (double_character a b)
unfolding words_of has_all step_of switch_of double_character double_words
double_front f a b bs = chosen (CharacterIs 6 f (a ∷ b ∷ bs)) (in_double a b) (λ p. (refl, rw p, omega arith)) (λ p. rw p)

alone : (mode : ℕ) (f : Bool) (bs : List ℕ) → (mode ≡ 2 → ⊥) → 0 < length bs → length bs < 2 → CharacterIs mode f bs Lacking
unfolding has_all
alone mode f [] n p h = absurd (omega arith)
alone mode f (a ∷ []) n p h = rw (ne_eqb mode 2 n) (chosen (λ x. x ≡ false) (eqb mode 6) (λ e. refl) (λ e. refl))
alone mode f (a ∷ b ∷ bs) n p h = absurd (omega arith)

-- the same at a place of a run
module _ (run : List ℕ) (mode : ℕ) (f : Bool) (j : ℕ) (h : j < length run) (r : Character) where
  pub text_character_lem : mode ≡ 2 → r ≡ text_character f (get_or run j 0) → CharacterIs mode f (drop j run) r
  text_character_lem e q = rw (e, q, drop-cons run j 0 h) (text_front f (get_or run j 0) (drop (suc j) run))

  pub alone_character : (mode ≡ 2 → ⊥) → length run - j < 2 → CharacterIs mode f (drop j run) Lacking
  alone_character n l = alone mode f (drop j run) n (rw length-drop (omega arith)) (rw length-drop l)

  module _ (l : j + 1 < length run) where
    pair : drop j run ≡ get_or run j 0 ∷ get_or run (j + 1) 0 ∷ drop (suc (suc j)) run
    pair = let e : j + 1 ≡ suc j = omega arith in drop-cons run j 0 h ∙ rw (e, drop-cons run (suc j) 0 (omega arith))

    pub double_character_lem : mode ≡ 6 → r ≡ double_character (get_or run j 0) (get_or run (j + 1) 0) → CharacterIs mode f (drop j run) r
    double_character_lem e q = rw (e, q, pair) (double_front f (get_or run j 0) (get_or run (j + 1) 0) (drop (suc (suc j)) run))

    pub region_character_lem : (mode ≡ 2 → ⊥) → (mode ≡ 6 → ⊥) → r ≡ region_character f (get_or run j 0) (get_or run (j + 1) 0)
        → CharacterIs mode f (drop j run) r
    region_character_lem n m q = rw (q, pair) (region_front mode f (get_or run j 0) (get_or run (j + 1) 0) (drop (suc (suc j)) run) n m)

-- ---- along a run

nothing : (mode : ℕ) → has_all mode [] ≡ true
unfolding has_all
nothing mode = chosen (λ x. x ≡ true) (eqb mode 2) (λ e. refl) (λ e. chosen (λ x. x ≡ true) (eqb mode 6) (λ g. refl) (λ g. refl))

pub just_end : (mode : ℕ) (f : Bool) → words_of mode f [] ≡ end_of mode ∷ []
unfolding words_of end_of text_words region_words double_words
just_end mode f = tested (eqb mode 2) (λ e. rw e) (λ e. rw e (tested (eqb mode 6) (λ g. rw g) (λ g. rw g)))

-- n words up to the place j of a run that began in f₀ and is now in f, and those before it are in the mode
pub record WordsCounted (mode : ℕ) (run : List ℕ) (f₀ : Bool) (j : ℕ) (f : Bool) (n : ℕ) : Type 0 where
  pub room : j ≤ length run
  pub few : n ≤ 2 * j
  pub have : has_all mode run ≡ has_all mode (drop j run)
  pub words : n + length (words_of mode f (drop j run)) ≡ length (words_of mode f₀ run)

module _ {mode : ℕ} {run : List ℕ} {f₀ : Bool} {j : ℕ} {f : Bool} {n : ℕ} (d : WordsCounted mode run f₀ j f n) where
  -- at the end
  pub counted_end : length run ≤ j → f₀ ≡ begins_in mode → Takes (4 + width_of mode * (n + 1)) ≡ char_cost mode run
  counted_end l g =
      let e : drop j run ≡ [] = drop_of_length-le run l in
      let t : has_all mode run ≡ true = d.have ∙ rw e (nothing mode) in
      let k : n + 1 ≡ length (words_of mode (begins_in mode) run) = rw (e, just_end mode f, g) at d.words in
      rw (t, k)

  -- at a character r
  module _ (r : Character) (h : CharacterIs mode f (drop j run) r) where
    pub counted_lacks : r ≡ Lacking → NotInMode ≡ char_cost mode run
    counted_lacks e = rw (d.have ∙ (rw e at h))

    module _ {by : ℕ} (b : by ≡ step_of mode) (p : 1 ≤ by) where
      next : (g : Bool) (k : ℕ) → k ≤ 2 → length (words_of mode f (drop j run)) ≡ k + length (words_of mode g (drop (step_of mode) (drop j run)))
          → has_all mode (drop j run) ≡ has_all mode (drop (step_of mode) (drop j run)) → step_of mode ≤ length (drop j run) → WordsCounted mode run f₀ (j + by) g (n + k)
      next g k few q a s =
          let m = rw length-drop at s in
          let q' : length (words_of mode f (drop j run)) ≡ k + length (words_of mode g (drop (j + by) run)) = rw b (rw drop-drop at q) in
          record { room = omega arith; few = omega arith; have = d.have ∙ rw b (rw drop-drop at a); words = omega arith }

      pub counted_same : {w : ℕ} → r ≡ Same w → WordsCounted mode run f₀ (j + by) f (n + 1)
      counted_same {w} e = let g = rw e at h in next f 1 (omega arith) (ap length g.0 ∙ omega arith) g.1 g.2

      pub counted_other : {w : ℕ} → r ≡ Other w → WordsCounted mode run f₀ (j + by) (not f) (n + 2)
      counted_other {w} e = let g = rw e at h in next (not f) 2 (omega arith) (ap length g.0 ∙ omega arith) g.1 g.2

-- ---- the bits of a run

all_bytes : (bs : List ℕ) → ((i : ℕ) → get_or bs i 0 < 256) → all (λ b. ltb b 256) bs ≡ true
all_bytes [] h = refl
all_bytes (b ∷ bs) h = rw (lt-ltb b 256 (h 0)) (all_bytes bs (λ i. h (suc i)))

module _ (run : List ℕ) (mode : ℕ) where
  pub numeric_takes : mode ≡ 1 → all is_digit run ≡ true → Takes (14 + 10 * ((length run + 2) / 3)) ≡ cost_of mode run
  unfolding mode_has mode_length
  numeric_takes e t = rw (e, t)

  pub numeric_lacks : mode ≡ 1 → all is_digit run ≡ false → NotInMode ≡ cost_of mode run
  unfolding mode_has
  numeric_lacks e t = rw (e, t)

  pub bytes_takes : mode ≡ 3 → ((i : ℕ) → get_or run i 0 < 256) → Takes (17 + 8 * length run) ≡ cost_of mode run
  unfolding mode_has mode_length
  bytes_takes e h = rw (e, all_bytes run h)

  pub four_takes : mode ≡ 7 → in_four run ≡ true → Takes 25 ≡ cost_of mode run
  unfolding mode_has mode_length
  four_takes e t = rw (e, t)

  pub four_lacks : mode ≡ 7 → in_four run ≡ false → NotInMode ≡ cost_of mode run
  unfolding mode_has
  four_lacks e t = rw (e, t)

-- ---- four bytes, and digits

four_same : (w : ℕ) (s : List ℕ) → length s ≡ 4
    → same (four_bytes w) s
    ≡ (eqb (0x81 + w / 12600) (get_or s 0 0) && (eqb (0x30 + w % 12600 / 1260) (get_or s 1 0)
    && (eqb (0x81 + w % 1260 / 10) (get_or s 2 0) && (eqb (0x30 + w % 10) (get_or s 3 0) && true))))
unfolding same four_bytes
four_same w s e =
    let l : length s ≤ 4 = omega arith in
    let q : s ≡ get_or s 0 0 ∷ get_or s 1 0 ∷ get_or s 2 0 ∷ get_or s 3 0 ∷ [] = drop-cons s 0 0 (omega arith)
    ∙ rw (drop-cons s 1 0 (omega arith), drop-cons s 2 0 (omega arith), drop-cons s 3 0 (omega arith), drop_of_length-le s l) in
    rw q

-- the bytes of a value that is in the mode
four_bytes_lem : (s : List ℕ) → in_four s ≡ true → s ≡ four_bytes (four_code s)
unfolding in_four
four_bytes_lem s h = sym (same_is (four_bytes (four_code s)) s (both (ltb (four_code s) 1587600) (same (four_bytes (four_code s)) s) h).1)

pub four_long : (s : List ℕ) → in_four s ≡ true → length s ≡ 4
unfolding four_bytes
four_long s h = ap length (four_bytes_lem s h)

pub four_none : (s : List ℕ) → (s ≡ four_bytes (four_code s) → ⊥) → false ≡ in_four s
four_none s n = tested (in_four s) (λ e. absurd (n (four_bytes_lem s e))) (λ e. sym e)

-- the last byte tells, where the first three are right
pub four_last : (s : List ℕ) (w a b c d : ℕ) → w ≡ four_code s → w < 1587600 → length s ≡ 4 → a ≡ get_or s 0 0 → b ≡ get_or s 1 0 → c ≡ get_or s 2 0 → d ≡ get_or s 3 0
    → 0x81 + w / 12600 ≡ a → 0x30 + w % 12600 / 1260 ≡ b → 0x81 + w % 1260 / 10 ≡ c → eqb (0x30 + w % 10) d ≡ in_four s
unfolding in_four
four_last s w a b c d e v l ea eb ec ed fa fb fc =
    let three = four_same w s l in
    let q : same (four_bytes w) s ≡ (eqb (0x30 + w % 10) d && true) =
    rw (three, ← ea, ← eb, ← ec, ← ed, eq-eqb (0x81 + w / 12600) a fa, eq-eqb (0x30 + w % 12600 / 1260) b fb, eq-eqb (0x81 + w % 1260 / 10) c fc) in
    rw (← e, lt-ltb w 1587600 v, q, and-true)

-- a digit more, and the first byte that is none
pub digits_next : (run : List ℕ) (j x y z : ℕ) → j < length run → ltb y 10 ≡ is_digit (get_or run j 0) → ltb z 10 ≡ (ltb x 10 && ltb y 10)
    → (ltb x 10 && all is_digit (drop j run)) ≡ (ltb z 10 && all is_digit (drop (j + 1) run))
digits_next run j x y z h e f = rw (f, e, drop-cons run j 0 h, add-one) (sym (and_assoc (ltb x 10) (is_digit (get_or run j 0)) (all is_digit (drop (suc j) run))))

pub digits_end : (run : List ℕ) (j x : ℕ) → length run ≤ j → ltb x 10 ≡ (ltb x 10 && all is_digit (drop j run))
digits_end run j x h = rw (drop_of_length-le run h, and-true)

-- the value of a digit, and the greater of two values
pub digit_value : (b : ℕ) → 48 ≤ b → ltb (b - 48) 10 ≡ is_digit b
unfolding is_digit
digit_value b h = rw (le-leb 48 b h) (elim (dec_lt b 58) [
  | yes l ↦ rw (lt-ltb b 58 l, lt-ltb (b - 48) 10 (omega arith))
  | no l ↦ rw (le-ltb b 58 (omega arith), le-ltb (b - 48) 10 (omega arith))
])

pub not_a_digit : (b : ℕ) → b < 48 → ltb 255 10 ≡ is_digit b
unfolding is_digit
not_a_digit b h = rw (lt-leb 48 b h)

pub right_greater : (a b : ℕ) → a ≤ b → ltb b 10 ≡ (ltb a 10 && ltb b 10)
right_greater a b h = elim (dec_lt a 10) [ yes l ↦ rw (lt-ltb a 10 l) | no l ↦ rw (le-ltb a 10 (omega arith), le-ltb b 10 (omega arith)) ]

pub left_greater : (a b : ℕ) → b ≤ a → ltb a 10 ≡ (ltb a 10 && ltb b 10)
left_greater a b h = elim (dec_lt a 10) [ yes l ↦ rw (lt-ltb a 10 l, lt-ltb b 10 (omega arith)) | no l ↦ rw (le-ltb a 10 (omega arith)) ]

-- no product of a word's width and the number of words is large
pub small : (w n : ℕ) → w ≤ 15 → n < 1000000 → w * n ≤ 15000000
small w n h l = mul-le-mul h (le_of_lt l)

-- the four modes of characters
same_cost : (x : Bool) (m n : ℕ) → (x ≡ true → m ≡ n) → cond x (Takes m) NotInMode ≡ cond x (Takes n) NotInMode
same_cost x m n h = tested x (λ t. rw (h t)) (λ t. rw t)

pub char_cost_lem : (run : List ℕ) (mode : ℕ) → 1 ≤ mode → mode ≤ 7 → (mode ≡ 1 → ⊥) → (mode ≡ 3 → ⊥) → (mode ≡ 7 → ⊥)
    → char_cost mode run ≡ cost_of mode run
unfolding mode_has mode_length has_all words_of width_of begins_in
char_cost_lem run zero a b n1 n3 n7 = absurd (omega arith)
char_cost_lem run (suc zero) a b n1 n3 n7 = absurd (n1 refl)
char_cost_lem run (suc (suc zero)) a b n1 n3 n7 = same_cost (all in_text run) _ _ (λ t. rw (text_length true run) (omega arith))
char_cost_lem run (suc (suc (suc zero))) a b n1 n3 n7 = absurd (n3 refl)
char_cost_lem run (suc (suc (suc (suc zero)))) a b n1 n3 n7 = same_cost (all_pairs in_regions run) _ _ (λ t. rw (region_length true run t) (omega arith))
char_cost_lem run (suc (suc (suc (suc (suc zero))))) a b n1 n3 n7 = same_cost (all_pairs in_regions run) _ _ (λ t. rw (region_length false run t) (omega arith))
char_cost_lem run (suc (suc (suc (suc (suc (suc zero)))))) a b n1 n3 n7 = same_cost (all_pairs in_double run) _ _ (λ t. rw (double_length run t) (omega arith))
char_cost_lem run (suc (suc (suc (suc (suc (suc (suc zero))))))) a b n1 n3 n7 = absurd (n7 refl)
char_cost_lem run (suc (suc (suc (suc (suc (suc (suc (suc m)))))))) a b n1 n3 n7 = absurd (omega arith)
