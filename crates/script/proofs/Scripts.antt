-- The segments that a script and its payload come to: their script and payload are these again, and each is as the check asks.
use Rattle.general.proofs.Names.{◌≡◌, refl, true, cond, ◌&&◌, Option, none, some, bind, List, [], ◌∷◌, ◌++◌, flat_map, ℕ, zero, suc, ◌+◌, ◌*◌}
use Rattle.general.proofs.Names.{◌/◌, ◌%◌, ◌<◌, ◌≤◌, arith, eqb-true, eqb-false, ltb-true, leb-true, eq-eqb, ne_eqb, eqb, leb, length, get_or}
use Rattle.general.proofs.Names.{drop, sym, ◌∙◌, drop-cons, drop_of_length-le, take-append-drop, get_or-drop, length-take-le}
use Rattle.general.proofs.Choices.{never, chosen, chosen_less}
use Rattle.segments.specs.Script.{Segment, bytes_of, command_of, payload_of, script_of}
use Rattle.script.specs.Check.{allowed, taking, segment_at, commands}
use Rattle.script.specs.Inner.{length_operand, value_operand, with}
use Rattle.script.proofs.Tests.{both}
use Rattle.script.proofs.Back.{Legal, AllLegal}
use Rattle.segments.specs.Positions.{run_command}

-- ---- the segment at the front

-- a segment whose command and bytes stand at the front of script and payload
abbrev Front : List ℕ → List ℕ → Option Segment → Type 0
Front s p none = Unit {0}
Front s p (some g) = (command_of g ++ drop (length (command_of g)) s ≡ s) × (bytes_of g ++ drop (length (bytes_of g)) p ≡ p) × Legal g

front_3 : (s : List ℕ) (m : ℕ) → 3 ≤ length s → ((i : ℕ) → get_or s i 0 < 256) → get_or s 0 0 ≡ m
    → m ∷ length_operand s / 256 ∷ length_operand s % 256 ∷ drop 3 s ≡ s
front_3 s m h b e =
    let p : length_operand s / 256 ≡ get_or s 1 0 = omega (arith, b 2) in
    let q : length_operand s % 256 ≡ get_or s 2 0 = omega (arith, b 2) in
    rw (p, q, ← e) (sym (drop-cons s 0 0 (omega arith) ∙ rw (drop-cons s 1 0 (omega arith), drop-cons s 2 0 (omega arith))))

front_4 : (s : List ℕ) → 4 ≤ length s → ((i : ℕ) → get_or s i 0 < 256) → get_or s 0 0 ≡ 8
    → 8 ∷ value_operand s / 65536 ∷ value_operand s / 256 % 256 ∷ value_operand s % 256 ∷ drop 4 s ≡ s
front_4 s h b e =
    let l = b 2 in
    let k = b 3 in
    let p : value_operand s / 65536 ≡ get_or s 1 0 = omega arith in
    let q : value_operand s / 256 ≡ get_or s 1 0 * 256 + get_or s 2 0 = omega arith in
    let r : value_operand s / 256 % 256 ≡ get_or s 2 0 = rw q (omega arith) in
    let t : value_operand s % 256 ≡ get_or s 3 0 = omega arith in
    rw (p, r, t, ← e) (sym (drop-cons s 0 0 (omega arith)
    ∙ rw (drop-cons s 1 0 (omega arith), drop-cons s 2 0 (omega arith), drop-cons s 3 0 (omega arith))))

front_1 : (s : List ℕ) → 0 < length s → get_or s 0 0 ≡ 7 → 7 ∷ drop 1 s ≡ s
front_1 s h e = rw (← e) (sym (drop-cons s 0 0 h))

module _ (s p : List ℕ) (b : (i : ℕ) → get_or s i 0 < 256) (l : 0 < length s) where
  abbrev mode : ℕ
  mode = get_or s 0 0

  -- bytes taken for a command at the front
  front_taking : (m n : ℕ) → run_command m n ++ drop (length (run_command m n)) s ≡ s → 1 ≤ m → m ≤ 7 → (m ≡ 1 → 0 < n)
      → (m ≡ 3 → n ≤ 8191)
      → Front s p (taking m n p)
  front_taking m n c m1 m7 d1 d3 =
      chosen_less (Front s p) (length p) n (λ e. tt)
      (λ e. let k = length-take-le n p e in (rw k c, rw k (take-append-drop n p), (m1, m7, λ q. rw k (d1 q), λ q. rw k (d3 q))))

  -- an allowed length
  front_run : (1 ≤ mode) × (mode ≤ 6) → 3 ≤ length s → allowed mode (length_operand s) ≡ true → Front s p (taking mode (length_operand s) p)
  unfolding allowed
  front_run m e f =
      front_taking mode (length_operand s) (rw (ne_eqb mode 7 (λ q. omega arith)) (front_3 s mode e b refl)) m.0 (omega arith)
      (λ q. ltb-true 0 (length_operand s) (rw (eq-eqb mode 1 q) at f))
      (λ q. leb-true (length_operand s) 8191 (rw (ne_eqb mode 1 (λ g. omega arith), eq-eqb mode 3 q) at f))

  front : Front s p (segment_at s p)
  unfolding segment_at
  front =
      chosen (Front s p) (eqb mode 7)
      (λ e. front_taking 7 4 (front_1 s l (eqb-true mode 7 e)) (omega arith) (omega arith) (λ q. omega arith) (λ q. omega arith))
      (λ e. chosen (Front s p) (eqb mode 8)
      (λ f. chosen_less (Front s p) (length s) 4 (λ g. tt)
      (λ g. chosen_less (Front s p) 2097151 (value_operand s) (λ k. tt) (λ k. (front_4 s g b (eqb-true mode 8 f), refl, k))))
      (λ f. chosen (Front s p) (leb 1 mode && leb mode 6)
      (λ g. let k = both (leb 1 mode) (leb mode 6) g in
      chosen_less (Front s p) (length s) 3 (λ q. tt)
      (λ q. chosen (Front s p) (allowed mode (length_operand s)) (front_run (leb-true 1 mode k.0, leb-true mode 6 k.1) q) (λ r. tt)))
      (λ g. tt)))

-- ---- all of them

abbrev pub Again : List ℕ → List ℕ → List Segment → Type 0
Again s p gs = (script_of gs ≡ s) × (payload_of gs ≡ p) × AllLegal gs

empty : (s : List ℕ) → length s ≡ 0 → s ≡ []
empty s e = drop_of_length-le s {i = 0} (omega arith)

pub positive : (m : ℕ) → (m ≡ 0 → ⊥) → 0 < m
positive zero f = absurd (f refl)
positive (suc m) f = omega arith

-- one segment more, given what holds of the rest
module _ (k : ℕ) (s p : List ℕ) (gs : List Segment) (b : (i : ℕ) → get_or s i 0 < 256)
    (ih : (s p : List ℕ) (gs : List Segment) → ((i : ℕ) → get_or s i 0 < 256) → commands k s p ≡ some gs → Again s p gs) where
  -- what the commands behind a segment make
  abbrev behind : Segment → Option (List Segment)
  behind g = commands k (drop (length (command_of g)) s) (drop (length (bytes_of g)) p)

  rest : (g : Segment) → Front s p (some g) → (z : Option (List Segment)) → behind g ≡ z → with g z ≡ some gs → Again s p gs
  unfolding script_of payload_of flat_map
  rest g f none q h = never cc
  rest g f (some hs) q h =
      let e : gs ≡ g ∷ hs = cc in
      let a = ih (drop (length (command_of g)) s) (drop (length (bytes_of g)) p) hs (λ j. rw get_or-drop (b (length (command_of g) + j))) q in
      rw e (rw a.0 f.0, rw a.1 f.1, (f.2, a.2))

  taken : (z : Option Segment) → Front s p z → bind z (λ g. with g (behind g)) ≡ some gs → Again s p gs
  unfolding bind
  taken none f h = never cc
  taken (some g) f h = rest g f (behind g) refl h

  more : cond (eqb (length s) 0) (cond (eqb (length p) 0) (some []) none) (bind (segment_at s p) (λ g. with g (behind g))) ≡ some gs → Again s p gs
  unfolding script_of payload_of flat_map
  more =
      chosen (λ z. z ≡ some gs → Again s p gs) (eqb (length s) 0)
      (λ q. chosen (λ z. z ≡ some gs → Again s p gs) (eqb (length p) 0)
      (λ r h. let g : gs ≡ [] = cc in rw (g, empty s (eqb-true (length s) 0 q), empty p (eqb-true (length p) 0 r)) (refl, refl, tt)) (λ r h. never cc))
      (λ q h. taken (segment_at s p) (front s p b (positive (length s) (eqb-false (length s) 0 q))) h)

pub commands_again : (k : ℕ) (s p : List ℕ) (gs : List Segment) → ((i : ℕ) → get_or s i 0 < 256) → commands k s p ≡ some gs → Again s p gs
unfolding commands
commands_again zero s p gs b e = never cc
commands_again (suc k) s p gs b e = more k s p gs b (commands_again k) e
