-- Words that are left to write, and bits that are written one part after the other.
use Rattle.general.proofs.Names.{◌≡◌, refl, ◌∙◌, sym, Bool, true, not, List, [], ◌∷◌, ◌++◌, append_assoc, append-nil, flat_map, ℕ, suc, ◌+◌}
use Rattle.general.proofs.Names.{◌-◌, ◌*◌, ◌/◌, ◌%◌, ◌^◌, ◌<◌, ◌≤◌, mul-suc, mul-zero, add-zero, mod-lt, add-one, arith, length, get_or, take, drop}
use Rattle.general.proofs.Names.{length-append, length-drop, drop_of_length-le, drop-cons, drop-drop, take_all}
use lib.Pow.{high, split, pow_pos}
use Rattle.bits.specs.Bits.{low_bits, word_bits}
use Rattle.bits.proofs.Words.{length_low, length_words}
use Rattle.bits.proofs.Bytes.{low_add}
use Rattle.bits.proofs.Appending.{low_split}
use Rattle.script.specs.Writer.{numeric_words}
use Rattle.script.specs.declared.Character.{Character}
use Rattle.script.specs.declared.Character.TheVariants.{Same, Other, Lacking}
use Rattle.script.specs.Characters.{words_of, has_all, step_of, switch_of, end_of, CharacterIs}
use Rattle.script.proofs.Tests.{false_true}
use Rattle.script.proofs.Runs.{just_end}
use Rattle.encoding.specs.Written.{Written, WordsLeft, group_at}

pub written_both : {s t u xs ys : List ℕ} {i a r : ℕ} → Written s i xs a t → Written t a ys r u → Written s i (xs ++ ys) r u
written_both p q = record { behind = q.behind ∙ rw (p.behind, length-append) (omega arith); bits = q.bits ∙ rw (p.bits, append_assoc) }

pub begun : (w : ℕ) (s : List ℕ) (i : ℕ) (ws : List ℕ) → WordsLeft w s i ws s i ws
begun w s i ws = record { place = refl; bits = refl }

module _ {w : ℕ} {s : List ℕ} {i : ℕ} {ws t : List ℕ} {a : ℕ} where
  pub word_room : {u : ℕ} {us : List ℕ} (m : ℕ) → WordsLeft w s i ws t a (u ∷ us) → i + w * length ws ≤ m → a + w ≤ m
  word_room {u} {us} m d h = let k : a + (w * length us + w) ≡ i + w * length ws = rw mul-suc at d.place in omega arith

  pub word_done : {u : ℕ} {us : List ℕ} {t' : List ℕ} {r : ℕ} → WordsLeft w s i ws t a (u ∷ us) → Written t a (low_bits w u) r t'
      → WordsLeft w s i ws t' r us
  unfolding word_bits flat_map
  word_done {u} {us} {t'} {r} d q =
      let b : r ≡ a + w = q.behind ∙ rw length_low in
      record { place = rw b (omega arith); bits = rw (q.bits, append_assoc) d.bits }

  -- two words at once
  pub two_room : {u v : ℕ} {us : List ℕ} (m : ℕ) → WordsLeft w s i ws t a (u ∷ v ∷ us) → i + w * length ws ≤ m → a + (w + w) ≤ m
  two_room {u} {v} {us} m d h = let k : a + (w * length us + w + w) ≡ i + w * length ws = rw (mul-suc, mul-suc) at d.place in omega arith

  pub two_done : {u v : ℕ} {us : List ℕ} {t' : List ℕ} {r : ℕ} → WordsLeft w s i ws t a (u ∷ v ∷ us)
      → Written t a (low_bits w u ++ low_bits w v) r t' → WordsLeft w s i ws t' r us
  unfolding word_bits flat_map
  two_done {u} {v} {us} {t'} {r} d q =
      let b : r ≡ a + (w + w) = q.behind ∙ rw (length-append, length_low, length_low) in
      record { place = rw b (omega arith); bits = rw (q.bits, append_assoc, append_assoc (low_bits w u) (low_bits w v) (word_bits w us)) d.bits }

  pub all_done : WordsLeft w s i ws t a [] → Written s i (word_bits w ws) a t
  unfolding word_bits flat_map
  all_done d =
      let k : a ≡ i + w * length ws = rw (mul-zero, add-zero) at d.place in
      record { behind = rw length_words k; bits = rw append-nil at d.bits }

-- the part of a run from a place on, as a slice of it
pub all_left : (run : List ℕ) (k : ℕ) → take (length run - k) (drop k run) ≡ drop k run
all_left run k = take_all (length run - k) (drop k run) (rw length-drop (omega arith))

-- two numbers in one
pub two_words : (m k x y : ℕ) → low_bits (m + k) (x * 2 ^ k + y % 2 ^ k) ≡ low_bits m x ++ low_bits k y
two_words m k x y =
    low_split m k (x * 2 ^ k + y % 2 ^ k)
    ∙ rw (high x k (mod-lt y (pow_pos k)), low_add k k x (y % 2 ^ k) (omega arith), ← low_add k k (y / 2 ^ k) (y % 2 ^ k) (omega arith), split y k)

-- what was left is written too
pub words_left_rest : {w : ℕ} {s : List ℕ} {i : ℕ} {ws t : List ℕ} {a : ℕ} {us u : List ℕ} {r : ℕ} → WordsLeft w s i ws t a us
    → Written t a (word_bits w us) r u → Written s i (word_bits w ws) r u
words_left_rest d q = record { behind = q.behind ∙ rw (length_words, length_words) d.place; bits = q.bits ∙ d.bits }

pub words_left_as : {w : ℕ} {s : List ℕ} {i : ℕ} {ws t : List ℕ} {a : ℕ} {us vs : List ℕ} → us ≡ vs → WordsLeft w s i ws t a us
    → WordsLeft w s i ws t a vs
words_left_as e d = rw e at d

-- ---- digits

pub three_digits : (run : List ℕ) (j : ℕ) → j + 3 ≤ length run → numeric_words (drop j run) ≡ group_at run j ∷ numeric_words (drop (j + 3) run)
unfolding numeric_words
three_digits run j h =
    let e1 : j + 1 ≡ suc j = omega arith in
    let e2 : j + 2 ≡ suc (suc j) = omega arith in
    let e3 : j + 3 ≡ suc (suc (suc j)) = omega arith in
    rw (e1, e2, e3, drop-cons run j 0 (omega arith), drop-cons run (suc j) 0 (omega arith), drop-cons run (suc (suc j)) 0 (omega arith))

pub six_digits : (run : List ℕ) (j : ℕ) → j + 6 ≤ length run
    → numeric_words (drop j run) ≡ group_at run j ∷ group_at run (j + 3) ∷ numeric_words (drop (j + 6) run)
six_digits run j h = let e : j + 3 + 3 ≡ j + 6 = omega arith in three_digits run j (omega arith) ∙ rw (three_digits run (j + 3) (omega arith), e)

pub one_digit : (run : List ℕ) (j : ℕ) → j + 1 ≡ length run → numeric_words (drop j run) ≡ (get_or run j 0 - 48) ∷ 1021 ∷ []
unfolding numeric_words
one_digit run j h =
    let l : length run ≤ suc j = omega arith in
    rw (drop-cons run j 0 (omega arith), drop_of_length-le run l)

pub two_digits : (run : List ℕ) (j : ℕ) → j + 2 ≡ length run
    → numeric_words (drop j run) ≡ ((get_or run j 0 - 48) * 10 + (get_or run (j + 1) 0 - 48)) ∷ 1022 ∷ []
unfolding numeric_words
two_digits run j h =
    let e1 : j + 1 ≡ suc j = omega arith in
    let l : length run ≤ suc (suc j) = omega arith in
    rw (e1, drop-cons run j 0 (omega arith), drop-cons run (suc j) 0 (omega arith), drop_of_length-le run l)

pub no_digit : (run : List ℕ) (j : ℕ) → length run ≤ j → numeric_words (drop j run) ≡ 1023 ∷ []
unfolding numeric_words
no_digit run j h = rw (drop_of_length-le run h)

-- ---- bytes

pub next_byte : (run : List ℕ) (j : ℕ) → j < length run → drop j run ≡ get_or run j 0 ∷ drop (j + 1) run
next_byte run j h = rw add-one (drop-cons run j 0 h)

pub no_byte : (run : List ℕ) (j : ℕ) → length run ≤ j → drop j run ≡ []
no_byte run j h = drop_of_length-le run h

-- ---- characters

-- behind the character at the place j of a run: its words vs, and then those of the rest in a subset or region g, are what is left to write
pub record Behind (run : List ℕ) (mode j w : ℕ) (s : List ℕ) (i : ℕ) (ws t : List ℕ) (a : ℕ) (vs : List ℕ) (g : Bool) : Type 0 where
  pub room : j ≤ length run
  pub have : has_all mode (drop j run) ≡ true
  pub words_left : WordsLeft w s i ws t a (vs ++ words_of mode g (drop j run))

behind_it : (run : List ℕ) (mode : ℕ) (f : Bool) (j : ℕ) {by w : ℕ} {s : List ℕ} {i : ℕ} {ws t : List ℕ} {a : ℕ} {vs : List ℕ} {g : Bool}
    → by ≡ step_of mode → j ≤ length run → has_all mode (drop j run) ≡ true → WordsLeft w s i ws t a (words_of mode f (drop j run))
    → (words_of mode f (drop j run) ≡ vs ++ words_of mode g (drop (step_of mode) (drop j run)))
    × (has_all mode (drop j run) ≡ has_all mode (drop (step_of mode) (drop j run))) × (step_of mode ≤ length (drop j run))
    → Behind run mode (j + by) w s i ws t a vs g
behind_it run mode f j b l k d q =
    let m = rw length-drop at q.2 in
    record { room = omega arith; have = rw b (rw drop-drop at (sym q.1 ∙ k)); words_left = rw b (rw (q.0, drop-drop) at d) }

module _ (run : List ℕ) (mode : ℕ) (f : Bool) (j : ℕ) {by w : ℕ} {s : List ℕ} {i : ℕ} {ws t : List ℕ} {a : ℕ} {r : Character}
    (h : CharacterIs mode f (drop j run) r) (b : by ≡ step_of mode) (l : j ≤ length run) (k : has_all mode (drop j run) ≡ true)
    (d : WordsLeft w s i ws t a (words_of mode f (drop j run))) where
  pub same_words : {v : ℕ} → r ≡ Same v → Behind run mode (j + by) w s i ws t a (v ∷ []) f
  same_words e = behind_it run mode f j b l k d (rw e at h)

  pub other_words : {v : ℕ} → r ≡ Other v → Behind run mode (j + by) w s i ws t a (switch_of mode ∷ v ∷ []) (not f)
  other_words e = behind_it run mode f j b l k d (rw e at h)

pub never_lacking : {A : Type 0} (run : List ℕ) (mode : ℕ) (f : Bool) (j : ℕ) {r : Character} → CharacterIs mode f (drop j run) r
    → has_all mode (drop j run) ≡ true → r ≡ Lacking → A
never_lacking run mode f j h t e = absurd (false_true (sym (rw e at h) ∙ t))

pub end_words : (run : List ℕ) (mode : ℕ) (f : Bool) (j : ℕ) → length run ≤ j → words_of mode f (drop j run) ≡ end_of mode ∷ []
end_words run mode f j h = rw (drop_of_length-le run h) (just_end mode f)
