-- One segment and all of them: what a step of the pass leaves of the definitions.
use Rattle.general.proofs.Names.{◌≡◌, refl, ap, ◌∙◌, sym, true, false, List, ◌∷◌, ◌++◌, flat_map, ℕ, suc, ◌+◌, ◌-◌, ◌*◌}
use Rattle.general.proofs.Names.{◌<◌, ◌≤◌, one-mul, add-zero, arith, eq-eqb, ne_eqb, lt-ltb, le-ltb, eqb, length, drop, length-append, sets, drop-drop}
use Rattle.bits.specs.Bits.{bits_of}
use Rattle.general.proofs.Choices.{never, tested}
use Rattle.bits.proofs.Reading.{length_left}
use Rattle.bits.proofs.Words.{WordAt, sets_append}
use Rattle.segments.specs.declared.Count.{Count}
use Rattle.segments.specs.declared.Count.TheVariants.{Done}
use Rattle.segments.specs.declared.Step.{Step}
use Rattle.segments.specs.declared.Step.TheVariants.{On}
use Rattle.segments.specs.Script.{Segment, run, eci, bytes_of, command_of, payload_of, script_of}
use Rattle.segments.specs.Segments.{Fault, cut, lacking, Result, failed, got, and_then, eci_of, bytes_of_mode, segment_of, Ending, end_mark, few_bits}
use Rattle.segments.specs.Segments.{broken, Parsed, following, parse, segments_of}
use Rattle.segments.specs.Positions.{stopped, behind, counted, stepped, Left, Inside, numeric_at, text_at, bytes_at, region_at, double_byte_at, run_command}
use Rattle.segments.specs.Positions.{four_byte_at, run_at, EciLeft, Stepped, Reached, ParsesTo, Parses}
use Rattle.segments.proofs.Turns.{behind_bits}

-- ---- faults and answers

same_count : (a b : Fault) → counted a ≡ counted b → a ≡ b
same_count cut cut e = refl
same_count cut lacking e = never cc
same_count lacking cut e = never cc
same_count lacking lacking e = refl

same_step : (a b : Fault) → stepped a ≡ stepped b → a ≡ b
same_step cut cut e = refl
same_step cut lacking e = never cc
same_step lacking cut e = never cc
same_step lacking lacking e = refl

pub not_done : (bad : Fault) {a k : ℕ} {A : Type 0} → counted bad ≡ Done a k → A
not_done cut e = never cc
not_done lacking e = never cc

not_on : (bad : Fault) {a k j : ℕ} {A : Type 0} → stepped bad ≡ On a k j → A
not_on cut e = never cc
not_on lacking e = never cc

-- ---- the modes by their numbers

module _ (s : List ℕ) (i n : ℕ) (o : List ℕ) (mode : ℕ) where
  pub run_numeric : mode ≡ 1 → run_at s i n o mode ≡ numeric_at s i n o
  unfolding bytes_of_mode
  run_numeric e = rw (e, behind_bits)

  pub run_text : mode ≡ 2 → run_at s i n o mode ≡ text_at s i n o true
  unfolding bytes_of_mode
  run_text e = rw (e, behind_bits)

  pub run_bytes : mode ≡ 3 → run_at s i n o mode ≡ bytes_at s i n o
  unfolding bytes_of_mode
  run_bytes e = rw e

  pub run_one : mode ≡ 4 → run_at s i n o mode ≡ region_at s i n o true
  unfolding bytes_of_mode
  run_one e = rw (e, behind_bits)

  pub run_two : mode ≡ 5 → run_at s i n o mode ≡ region_at s i n o false
  unfolding bytes_of_mode
  run_two e = rw (e, behind_bits)

  pub run_double : mode ≡ 6 → run_at s i n o mode ≡ double_byte_at s i n o
  unfolding bytes_of_mode
  run_double e = rw (e, behind_bits)

  pub run_four : mode ≡ 7 → run_at s i n o mode ≡ four_byte_at s i n o
  unfolding bytes_of_mode
  run_four e = rw e

  pub run_none : (mode ≡ 1 → ⊥) → (mode ≡ 2 → ⊥) → (mode ≡ 3 → ⊥) → (mode ≡ 4 → ⊥) → (mode ≡ 5 → ⊥)
      → (mode ≡ 6 → ⊥) → (mode ≡ 7 → ⊥) → run_at s i n o mode ≡ stopped lacking
  unfolding bytes_of_mode
  run_none a b c d e f g = rw (ne_eqb mode 1 a, ne_eqb mode 2 b, ne_eqb mode 3 c, ne_eqb mode 4 d, ne_eqb mode 5 e, ne_eqb mode 6 f, ne_eqb mode 7 g)

-- ---- one segment

pub command_length : (mode n : ℕ) → length (run_command mode n) ≤ 3
command_length mode n = tested (eqb mode 7) (λ e. rw e (omega arith)) (λ e. rw e (omega arith))

eci_done : (s : List ℕ) (i : ℕ) (z : Result Segment) (r : Count) (a v : ℕ) → EciLeft s i z r → r ≡ Done a v
    → (u : ℕ) × (z ≡ got (eci v) u) × (a ≡ i + u) × (i + u ≤ 8 * length s) × (v < 2097152)
eci_done s i (failed bad) r a v k q = not_done bad (sym k ∙ q)
eci_done s i (got (run x bs) u) r a v k q = absurd k
eci_done s i (got (eci v') u) r a v k q = let ev : v ≡ v' = cc in (u, rw ev, cc, k.1, rw ev k.2)

module _ (s : List ℕ) (i n m : ℕ) (o c : List ℕ) (mode : ℕ) (h : m + 4 ≤ i) (l : n ≤ i) where
  pub eci_on : mode ≡ 8 → (a v : ℕ) (r : Count) (y : List ℕ) → EciLeft s i (eci_of (drop i (bits_of s))) r → r ≡ Done a v
      → y ≡ sets c m (command_of (eci v))
      → Stepped s i n m o c (segment_of mode (drop i (bits_of s))) (On a n (m + 4)) o y
  unfolding segment_of
  eci_on e a v r y p q w =
      let k = eci_done s i (eci_of (drop i (bits_of s))) r a v p q in
      rw (eq-eqb mode 8 e, k.1) (rw (← k.2, add-zero), refl, w, k.3, omega arith, omega arith)

  pub eci_bound : (r : Count) (a v : ℕ) → EciLeft s i (eci_of (drop i (bits_of s))) r → r ≡ Done a v → v < 2097152
  eci_bound r a v p q = (eci_done s i (eci_of (drop i (bits_of s))) r a v p q).4

  pub eci_stop : mode ≡ 8 → (bad : Fault) (r : Count) (x y : List ℕ) → EciLeft s i (eci_of (drop i (bits_of s))) r → r ≡ counted bad
      → Stepped s i n m o c (segment_of mode (drop i (bits_of s))) (stepped bad) x y
  unfolding segment_of
  eci_stop e bad r x y p q = rw (eq-eqb mode 8 e) (go (eci_of (drop i (bits_of s))) p)
    where
      go : (z : Result Segment) → EciLeft s i z r → Stepped s i n m o c z (stepped bad) x y
      go (failed b) k = ap stepped (same_count bad b (sym q ∙ k))
      go (got (run x bs) u) k = absurd k
      go (got (eci v') u) k = not_done bad (sym q ∙ k.0)

  module _ (f : mode ≡ 8 → ⊥) (r : Count) (x : List ℕ) (p : Left (run_at s i n o mode) r x) where
    pub run_on : (a k used : ℕ) (y : List ℕ) → r ≡ Done a k → a ≤ 8 * length s → k ≤ a → used ≡ length (run_command mode (k - n))
        → y ≡ sets c m (run_command mode (k - n))
        → Stepped s i n m o c (segment_of mode (drop i (bits_of s))) (On a k (m + used)) x y
    unfolding segment_of
    run_on a k used y q la lk eu ey = rw (ne_eqb mode 8 f) (go (bytes_of_mode mode (drop i (bits_of s))) p)
      where
        go : (z : Result (List ℕ)) → Left (behind 1 i n o z) r x → Stepped s i n m o c (and_then z (λ cs u. got (run mode cs) u)) (On a k (m + used)) x y
        go (failed bad) g = not_done bad (sym g ∙ q)
        go (got bs u) g =
            let ea : a ≡ i + u = cc (one-mul u) in
            let ek : k ≡ n + length bs = cc in
            let d : k - n ≡ length bs = omega arith in
            let eu' : used ≡ length (run_command mode (length bs)) = rw d at eu in
            let three = command_length mode (length bs) in
            (rw (ea, ek, eu'), g.1, rw d at ey, omega arith, omega arith, omega arith)

    pub run_stop : (bad : Fault) (x' y : List ℕ) → r ≡ counted bad → Stepped s i n m o c (segment_of mode (drop i (bits_of s))) (stepped bad) x' y
    unfolding segment_of
    run_stop bad x' y q = rw (ne_eqb mode 8 f) (elim (bytes_of_mode mode (drop i (bits_of s)))
        as (λ z. Left (behind 1 i n o z) r x → Stepped s i n m o c (and_then z (λ cs u. got (run mode cs) u)) (stepped bad) x' y)
        [ failed b ↦ λ g. ap stepped (same_count bad b (sym q ∙ g)) | got bs u ↦ λ g. not_done bad (sym q ∙ g.0) ] p)

-- an answer of a mode that is at a place lies inside
pub inside : (s : List ℕ) (from to : ℕ) (r : Count) (a k : ℕ) → Inside s from to r → r ≡ Done a k
    → (from ≤ a) × (a ≤ 8 * length s) × (to ≤ k) × (k ≤ a)
inside s from to r a k h e = rw e at h

-- ---- all of them

step_room : (s : List ℕ) (i n m : ℕ) (o c : List ℕ) (z : Result Segment) (r : Step) (a k j : ℕ) (x y : List ℕ)
    → Stepped s i n m o c z r x y → r ≡ On a k j → (i ≤ a) × (a ≤ 8 * length s) × (k ≤ a) × (j ≤ a)
step_room s i n m o c (failed bad) r a k j x y p e = not_on bad (sym p ∙ e)
step_room s i n m o c (got g u) r a k j x y p e =
    let ea : a ≡ i + u = cc in
    let ek : k ≡ n + length (bytes_of g) = cc in
    let ej : j ≡ m + length (command_of g) = cc in
    (omega arith, rw ea p.3, rw (ea, ek) p.4, rw (ea, ej) p.5)

-- a segment b before others, by their ends
module _ (n m : ℕ) (o c : List ℕ) (b : Segment) (gs : List Segment) (r : Count) (x y : List ℕ) where
  reached : Reached (n + length (bytes_of b)) (m + length (command_of b)) (sets o n (bytes_of b)) (sets c m (command_of b)) gs r x y
      → Reached n m o c (b ∷ gs) r x y
  unfolding payload_of script_of flat_map
  reached d =
      let e1 : n + length (bytes_of b ++ payload_of gs) ≡ n + length (bytes_of b) + length (payload_of gs) = rw length-append (omega arith) in
      let e2 : m + length (command_of b ++ script_of gs) ≡ m + length (command_of b) + length (script_of gs) = rw length-append (omega arith) in
      (rw (e1, e2) d.0, rw sets_append d.1, rw sets_append d.2)

  join : (z : Ending) → ParsesTo (n + length (bytes_of b)) (m + length (command_of b)) (sets o n (bytes_of b)) (sets c m (command_of b)) gs z r x y
      → ParsesTo n m o c (b ∷ gs) z r x y
  join end_mark d = reached d
  join few_bits d = reached d
  join (broken bad) d = d

-- to parse from the position i on, with n payload bytes in o and m script bytes in c, is what is left of parsing the data s
pub record Parsing (s o₀ c₀ : List ℕ) (i n m : ℕ) (o c : List ℕ) : Type 0 where
  pub fuel : ℕ
  pub enough : 8 * length s - i < fuel
  pub rest : (r : Count) (x y : List ℕ) → Parses n m o c (parse fuel (drop i (bits_of s))) r x y → Parses 0 0 o₀ c₀ (segments_of s) r x y

pub parsing_start : (s o c : List ℕ) → Parsing s o c 0 0 0 o c
parsing_start s o c = record { fuel = 8 * length s + 1; enough = omega arith; rest = λ r x y h. h }

module _ {s o₀ c₀ : List ℕ} {i n m : ℕ} {o c : List ℕ} (d : Parsing s o₀ c₀ i n m o c) where
  abbrev bits : List ℕ
  bits = drop i (bits_of s)

  -- what is left, with one turn to come
  turn : (r : Count) (x y : List ℕ) → Parses n m o c (parse (suc (d.fuel - 1)) bits) r x y → Parses 0 0 o₀ c₀ (segments_of s) r x y
  turn r x y h = let e : suc (d.fuel - 1) ≡ d.fuel = omega arith in d.rest r x y (rw e at h)

  pub parse_few : length bits < 4 → Parses 0 0 o₀ c₀ (segments_of s) (Done n m) o c
  unfolding parse payload_of script_of flat_map
  parse_few h = turn (Done n m) o c (rw (lt-ltb (length bits) 4 h) (rw (add-zero, add-zero), refl, refl))

  module _ {mode : ℕ} (w : WordAt 4 i mode s) where
    enough_bits : 4 ≤ length bits
    enough_bits = let m = w.room in omega (arith, length_left s i)

    pub parse_end : mode ≡ 0 → Parses 0 0 o₀ c₀ (segments_of s) (Done n m) o c
    unfolding parse payload_of script_of flat_map
    parse_end e = turn (Done n m) o c (rw (le-ltb (length bits) 4 enough_bits, ← w.is, eq-eqb mode 0 e) (rw (add-zero, add-zero), refl, refl))

    module _ (h : mode ≡ 0 → ⊥) (t : Step) (x y : List ℕ) (g : Stepped s (i + 4) n m o c (segment_of mode (drop (i + 4) (bits_of s))) t x y) where
      abbrev behind_it : ℕ → Parsed
      behind_it u = parse (d.fuel - 1) (drop u (drop (i + 4) (bits_of s)))

      opened : parse (suc (d.fuel - 1)) bits ≡ following (segment_of mode (drop (i + 4) (bits_of s))) behind_it
      unfolding parse
      opened = simp (le-ltb (length bits) 4 enough_bits, sym w.is, ne_eqb mode 0 h, drop-drop 4 i (bits_of s))

      pub parse_stop : (bad : Fault) → t ≡ stepped bad → Parses 0 0 o₀ c₀ (segments_of s) (counted bad) x y
      parse_stop bad e = turn (counted bad) x y (rw opened (elim (segment_of mode (drop (i + 4) (bits_of s)))
          as (λ z. Stepped s (i + 4) n m o c z t x y → Parses n m o c (following z behind_it) (counted bad) x y)
          [ failed b ↦ λ q. ap counted (same_step bad b (sym e ∙ q)) | got b u ↦ λ q. not_on bad (sym e ∙ q.0) ] g))

      module _ {a k j : ℕ} (e : t ≡ On a k j) where
        pub parse_room : (i + 4 ≤ a) × (a ≤ 8 * length s) × (k ≤ a) × (j ≤ a)
        parse_room = step_room s (i + 4) n m o c (segment_of mode (drop (i + 4) (bits_of s))) t a k j x y g e

        pub parse_on : Parsing s o₀ c₀ a k j x y
        parse_on =
            let l = parse_room in
            record {
              fuel = d.fuel - 1;
              enough = omega arith;
              rest = λ r x' y' q. turn r x' y' (rw opened (here (segment_of mode (drop (i + 4) (bits_of s))) r x' y' g q));
            }
          where
            here : (z : Result Segment) (r : Count) (x' y' : List ℕ) → Stepped s (i + 4) n m o c z t x y
                → Parses k j x y (parse (d.fuel - 1) (drop a (bits_of s))) r x' y'
                → Parses n m o c (following z behind_it) r x' y'
            here (failed bad) r x' y' q f = not_on bad (sym q ∙ e)
            here (got b u) r x' y' q f =
                let ea : a ≡ i + 4 + u = cc in
                let ek : k ≡ n + length (bytes_of b) = cc in
                let ej : j ≡ m + length (command_of b) = cc in
                join n m o c b (behind_it u).segments r x' y' (behind_it u).end
                (rw (drop-drop u (i + 4) (bits_of s), ← ea, ← ek, ← ej, ← q.1, ← q.2) f)
