-- The check's steps: a command at a place of a script, and what it leaves of the answer.
use Rattle.general.proofs.Names.{◌≡◌, refl, ◌∙◌, sym, Bool, true, false, cond, ◌&&◌, Option, none, some, bind, List, [], ℕ, zero, suc, ◌+◌}
use Rattle.general.proofs.Names.{◌-◌, ◌*◌, ◌<◌, ◌≤◌, add-zero, zero-add, add_assoc, arith, eq-eqb, ne_eqb, lt-ltb, le-ltb, lt-leb, le-leb}
use Rattle.general.proofs.Names.{leb-true, ltb, eqb, leb, length, get_or, take, drop, length-drop, get_or-drop, drop-drop, length-take-le}
use Rattle.general.proofs.Choices.{never, tested, chosen, chosen_less}
use Rattle.segments.specs.Script.{Segment, run, eci, bytes_of, command_of}
use Rattle.script.specs.declared.Command.{Command}
use Rattle.script.specs.declared.Command.TheVariants.{Run, Eci, Wrong}
use Rattle.script.specs.declared.Check.TheVariants.{Bits, Malformed, Lacking, Empty}
use Rattle.script.specs.declared.Cost.{Cost}
use Rattle.script.specs.declared.Cost.TheVariants.{Takes, NotInMode}
use Rattle.script.specs.Writer.{mode_has, has}
use Rattle.script.specs.Lengths.{mode_length, eci_length, bits_of_segment, bits_of_segments}
use Rattle.script.specs.Check.{allowed, segment_at, commands, commands_of}
use Rattle.script.specs.Inner.{length_operand, value_operand, run_at, eci_at, command_at, command_size, made, with, most, capped, checked_of, check_of, checked_after}
use Rattle.script.specs.Characters.{cost_of, Limited}
use Rattle.script.proofs.Tests.{both}
use Rattle.segments.specs.Positions.{run_command}

-- ---- the command at a place

module _ (s : List ℕ) (i : ℕ) where
  first : get_or (drop i s) 0 0 ≡ get_or s i 0
  first = get_or-drop i s 0 0 ∙ rw add-zero

  pub run_cut : length s - i < 3 → Wrong ≡ run_at (drop i s)
  unfolding run_at
  run_cut h = rw (length-drop, lt-ltb (length s - i) 3 h)

  pub run_read : (m a b : ℕ) → 3 ≤ length s - i → m ≡ get_or s i 0 → a ≡ get_or s (i + 1) 0 → b ≡ get_or s (i + 2) 0
      → allowed m (a * 256 + b) ≡ true → Run m (a * 256 + b) ≡ run_at (drop i s)
  unfolding run_at
  run_read m a b h em ea eb t = rw (length-drop, le-ltb (length s - i) 3 h, first, get_or-drop, get_or-drop, ← em, ← ea, ← eb, t)

  pub run_wrong : (m a b : ℕ) → 3 ≤ length s - i → m ≡ get_or s i 0 → a ≡ get_or s (i + 1) 0 → b ≡ get_or s (i + 2) 0
      → allowed m (a * 256 + b) ≡ false → Wrong ≡ run_at (drop i s)
  unfolding run_at
  run_wrong m a b h em ea eb t = rw (length-drop, le-ltb (length s - i) 3 h, first, get_or-drop, get_or-drop, ← em, ← ea, ← eb, t)

  pub eci_cut : length s - i < 4 → Wrong ≡ eci_at (drop i s)
  unfolding eci_at
  eci_cut h = rw (length-drop, lt-ltb (length s - i) 4 h)

  module _ (a b c : ℕ) (h : 4 ≤ length s - i) (ea : a ≡ get_or s (i + 1) 0) (eb : b ≡ get_or s (i + 2) 0) (ec : c ≡ get_or s (i + 3) 0) where
    eci_is : eci_at (drop i s) ≡ cond (ltb 2097151 (a * 65536 + b * 256 + c)) Wrong (Eci (a * 65536 + b * 256 + c))
    unfolding eci_at
    eci_is = rw (length-drop, le-ltb (length s - i) 4 h, get_or-drop, get_or-drop, get_or-drop, ← ea, ← eb, ← ec)

    pub eci_large : 2097151 < a * 65536 + b * 256 + c → Wrong ≡ eci_at (drop i s)
    eci_large l = rw (eci_is, lt-ltb 2097151 (a * 65536 + b * 256 + c) l)

    pub eci_read : a * 65536 + b * 256 + c ≤ 2097151 → Eci (a * 65536 + b * 256 + c) ≡ eci_at (drop i s)
    eci_read l = rw (eci_is, le-ltb 2097151 (a * 65536 + b * 256 + c) l)

  module _ (m : ℕ) (e : m ≡ get_or s i 0) where
    command_is : command_at (drop i s) ≡ cond (eqb m 7) (Run 7 4) (cond (eqb m 8) (eci_at (drop i s)) (cond (leb 1 m && leb m 6) (run_at (drop i s)) Wrong))
    unfolding command_at
    command_is = rw (first, ← e)

    pub command_four : m ≡ 7 → Run 7 4 ≡ command_at (drop i s)
    command_four f = rw (command_is, eq-eqb m 7 f)

    pub command_eci : (m ≡ 7 → ⊥) → m ≡ 8 → command_at (drop i s) ≡ eci_at (drop i s)
    command_eci n f = rw (command_is, ne_eqb m 7 n, eq-eqb m 8 f)

    module _ (n : m ≡ 7 → ⊥) (k : m ≡ 8 → ⊥) where
      pub command_zero : m < 1 → Wrong ≡ command_at (drop i s)
      command_zero h = rw (command_is, ne_eqb m 7 n, ne_eqb m 8 k, lt-leb 1 m h)

      pub command_large : 1 ≤ m → 6 < m → Wrong ≡ command_at (drop i s)
      command_large l h = rw (command_is, ne_eqb m 7 n, ne_eqb m 8 k, le-leb 1 m l, lt-leb m 6 h)

      pub command_run : 1 ≤ m → m ≤ 6 → command_at (drop i s) ≡ run_at (drop i s)
      command_run l h = rw (command_is, ne_eqb m 7 n, ne_eqb m 8 k, le-leb 1 m l, le-leb m 6 h)

-- ---- what a command has

abbrev Bounded : List ℕ → Command → Type 0
Bounded s Wrong = Unit {0}
Bounded s (Eci v) = 4 ≤ length s
Bounded s (Run mode n) = (1 ≤ mode) × (mode ≤ 7) × (n < 65536) × (command_size mode ≤ length s)

module _ (s : List ℕ) (b : (i : ℕ) → get_or s i 0 < 256) (l : 0 < length s) where
  run_bounded : (1 ≤ get_or s 0 0) × (get_or s 0 0 ≤ 6) → Bounded s (run_at s)
  unfolding run_at command_size
  run_bounded m = chosen_less (Bounded s) (length s) 3 (λ p. tt) (λ k. chosen (Bounded s) (allowed (get_or s 0 0) (length_operand s))
      (λ q. (m.0, omega arith, omega (arith, b 1, b 2), rw (ne_eqb (get_or s 0 0) 7 (λ e. omega arith)) k)) (λ q. tt))

  eci_bounded : Bounded s (eci_at s)
  unfolding eci_at
  eci_bounded = chosen_less (Bounded s) (length s) 4 (λ p. tt) (λ k. chosen (Bounded s) (ltb 2097151 (value_operand s)) (λ q. tt) (λ q. k))

  bounded : Bounded s (command_at s)
  unfolding command_at command_size
  bounded =
      chosen (Bounded s) (eqb (get_or s 0 0) 7) (λ p. (omega arith, omega arith, omega arith, l))
      (λ p. chosen (Bounded s) (eqb (get_or s 0 0) 8) (λ q. eci_bounded) (λ q. chosen (Bounded s) (leb 1 (get_or s 0 0) && leb (get_or s 0 0) 6)
      (λ r. let k = both (leb 1 (get_or s 0 0)) (leb (get_or s 0 0) 6) r in
      run_bounded (leb-true 1 (get_or s 0 0) k.0, leb-true (get_or s 0 0) 6 k.1)) (λ r. tt)))

module _ (s : List ℕ) (i : ℕ) (b : (j : ℕ) → get_or s j 0 < 256) (h : i < length s) (c : Command) (e : c ≡ command_at (drop i s)) where
  here : Bounded (drop i s) c
  here = rw e (bounded (drop i s) (λ j. rw get_or-drop (b (i + j))) (rw length-drop (omega arith)))

  pub run_bounds : (mode n : ℕ) → c ≡ Run mode n → (1 ≤ mode) × (mode ≤ 7) × (n < 65536) × (i + command_size mode ≤ length s)
  run_bounds mode n q =
      let g = rw q at here in
      let k : command_size mode ≤ length s - i = rw length-drop at g.3 in
      (g.0, g.1, g.2, omega arith)

  pub eci_bounds : (v : ℕ) → c ≡ Eci v → i + 4 ≤ length s
  eci_bounds v q =
      let k : 4 ≤ length s - i = rw length-drop at (rw q at here) in
      omega arith

-- ---- what a command leaves of the answer

capped_add : (x y : ℕ) → capped (capped x + y) ≡ capped (x + y)
capped_add x y =
    chosen_less (λ z. capped (z + y) ≡ capped (x + y)) x most (λ h. refl) (λ h. rw (le-ltb (most + y) most (omega arith), le-ltb (x + y) most (omega arith)))

with_takes : (lacks : Bool) (t t' b : ℕ) (g : Segment) (z : Option (List Segment)) (p : List ℕ) → has g ≡ true → bits_of_segment g ≡ b
    → t' ≡ capped (t + b)
    → checked_after lacks t (with g z) p ≡ checked_after lacks t' z p
unfolding bits_of_segments
with_takes lacks t t' b g none p h e f = refl
with_takes lacks t t' b g (some gs) p h e f =
    let k : capped (t' + bits_of_segments gs) ≡ capped (t + (b + bits_of_segments gs)) = rw (f, capped_add (t + b) (bits_of_segments gs), add_assoc t b (bits_of_segments gs)) in
    rw (h, e, k)

with_lacks : (lacks : Bool) (t : ℕ) (g : Segment) (z : Option (List Segment)) (p : List ℕ) → has g ≡ false
    → checked_after lacks t (with g z) p ≡ checked_after true t z p
with_lacks lacks t g none p h = refl
with_lacks true t g (some gs) p h = refl
with_lacks false t g (some gs) p h = rw h

-- the segment at the front of a script is what the command there makes
segment_made : (s p : List ℕ) → segment_at s p ≡ made (command_at s) p
unfolding segment_at command_at eci_at run_at
segment_made s p = sym (simp made_choice)
  where
    made_choice : (b : Bool) (c d : Command) → made (cond b c d) p ≡ cond b (made c p) (made d p)
    made_choice true c d = refl
    made_choice false c d = refl

command_size_lem : (mode n : ℕ) → length (run_command mode n) ≡ command_size mode
unfolding command_size
command_size_lem mode n = tested (eqb mode 7) (λ e. rw e) (λ e. rw e)

-- what the commands from a place on make, by the command c there
module _ (s p : List ℕ) (i j : ℕ) (h : i < length s) (c : Command) (e : c ≡ command_at (drop i s)) (k : ℕ) where
  opened : commands (suc k) (drop i s) (drop j p)
      ≡ bind (made c (drop j p)) (λ g. with g (commands k (drop (length (command_of g)) (drop i s)) (drop (length (bytes_of g)) (drop j p))))
  unfolding commands
  opened =
      let l : length (drop i s) ≡ length s - i = length-drop i s in
      rw (ne_eqb (length (drop i s)) 0 (λ q. omega arith), segment_made (drop i s) (drop j p), ← e)

  pub at_wrong : c ≡ Wrong → commands (suc k) (drop i s) (drop j p) ≡ none
  unfolding bind
  at_wrong q = opened ∙ rw q

  pub at_eci : (v : ℕ) → c ≡ Eci v → commands (suc k) (drop i s) (drop j p) ≡ with (eci v) (commands k (drop (i + 4) s) (drop j p))
  unfolding bind
  at_eci v q = opened ∙ rw (q, ← (drop-drop 4 i s))

  module _ (mode n : ℕ) (q : c ≡ Run mode n) where
    pub at_short : length p - j < n → commands (suc k) (drop i s) (drop j p) ≡ none
    unfolding bind
    at_short l = opened ∙ rw (q, length-drop, lt-ltb (length p - j) n l)

    pub at_run : n ≤ length p - j
        → commands (suc k) (drop i s) (drop j p) ≡ with (run mode (take n (drop j p))) (commands k (drop (i + command_size mode) s) (drop (j + n) p))
    unfolding bind
    at_run l =
        let m : n ≤ length (drop j p) = rw length-drop l in
        opened
        ∙ rw (q, le-ltb (length (drop j p)) n m, length-take-le n (drop j p) m, command_size_lem mode n, ← (drop-drop (command_size mode) i s), ← (drop-drop n j p))

cost_takes : (mode b : ℕ) (bs : List ℕ) (r : Cost) → r ≡ cost_of mode bs → r ≡ Takes b → (mode_has mode bs ≡ true) × (mode_length mode bs ≡ b)
cost_takes mode b bs r e q = tested (mode_has mode bs) (λ h. let f = rw h at e in (h, cc)) (λ h. let f = rw h at e in never cc)

cost_none : (mode : ℕ) (bs : List ℕ) (r : Cost) → r ≡ cost_of mode bs → r ≡ NotInMode → mode_has mode bs ≡ false
cost_none mode bs r e q = tested (mode_has mode bs) (λ h. let f = rw h at e in never cc) (λ h. h)

-- ---- the check along a script

-- the answer is that of the commands from a place on, where those before it have t bits, and one of them lacks some of its bytes or none
pub record CheckFrom (s p : List ℕ) (i j : ℕ) (lacks : Bool) (t : ℕ) : Type 0 where
  pub fuel : ℕ
  pub enough : length s - i < fuel
  pub same : check_of s p ≡ checked_after lacks t (commands fuel (drop i s) (drop j p)) p

pub check_from_start : (s p : List ℕ) → CheckFrom s p 0 0 false 0
check_from_start s p = record { fuel = length s + 1; enough = omega arith; same = go (commands_of s p) }
  where
    go : (c : Option (List Segment)) → checked_of c p ≡ checked_after false 0 c p
    go none = refl
    go (some gs) = rw zero-add

-- at a command c
module _ {s p : List ℕ} {i j : ℕ} {lacks : Bool} {t : ℕ} {c : Command} (d : CheckFrom s p i j lacks t) (h : i < length s)
    (e : c ≡ command_at (drop i s)) where
  answered : (z : Option (List Segment)) → commands (suc (d.fuel - 1)) (drop i s) (drop j p) ≡ z → check_of s p ≡ checked_after lacks t z p
  answered z q =
      let k : suc (d.fuel - 1) ≡ d.fuel = omega arith in
      let q' = rw k at q in
      d.same ∙ rw q'

  pub check_from_wrong : c ≡ Wrong → Malformed ≡ check_of s p
  check_from_wrong q = sym (answered none (at_wrong s p i j h c e (d.fuel - 1) q))

  pub check_from_eci : {v b t' : ℕ} → c ≡ Eci v → b ≡ eci_length v → t' ≡ capped (t + b) → CheckFrom s p (i + 4) j lacks t'
  check_from_eci {v} {b} {t'} q eb m =
      let rest : Option (List Segment) = commands (d.fuel - 1) (drop (i + 4) s) (drop j p) in
      record {
        fuel = d.fuel - 1;
        enough = omega arith;
        same = answered (with (eci v) rest) (at_eci s p i j h c e (d.fuel - 1) v q) ∙ with_takes lacks t t' b (eci v) rest p refl (sym eb) m;
      }

  pub check_from_short : {mode n : ℕ} → c ≡ Run mode n → length p - j < n → Malformed ≡ check_of s p
  check_from_short {mode} {n} q l = sym (answered none (at_short s p i j h c e (d.fuel - 1) mode n q l))

  module _ {mode n x : ℕ} {r : Cost} (q : c ≡ Run mode n) (l : n ≤ length p - j) (er : r ≡ cost_of mode (take n (drop j p)))
      (ex : x ≡ command_size mode)
      (px : 1 ≤ x) where
    abbrev bytes : List ℕ
    bytes = take n (drop j p)

    abbrev rest : Option (List Segment)
    rest = commands (d.fuel - 1) (drop (i + command_size mode) s) (drop (j + n) p)

    -- one command less, with bits t' and perhaps a lack behind
    next : (lacks' : Bool) (t' : ℕ) → checked_after lacks t (with (run mode bytes) rest) p ≡ checked_after lacks' t' rest p
        → CheckFrom s p (i + x) (j + n) lacks' t'
    next lacks' t' f =
        record {
          fuel = d.fuel - 1;
          enough = omega arith;
          same = rw ex (answered (with (run mode bytes) rest) (at_run s p i j h c e (d.fuel - 1) mode n q l) ∙ f);
        }

    pub check_from_takes : {b t' : ℕ} → r ≡ Takes b → t' ≡ capped (t + b) → CheckFrom s p (i + x) (j + n) lacks t'
    check_from_takes {b} {t'} g m =
        let y = cost_takes mode b bytes r er g in
        next lacks t' (with_takes lacks t t' b (run mode bytes) rest p y.0 y.1 m)

    pub check_from_lacks : r ≡ NotInMode → CheckFrom s p (i + x) (j + n) true t
    check_from_lacks g = next true t (with_lacks lacks t (run mode bytes) rest p (cost_none mode bytes r er g))

-- ---- the end of the script

ended : (s p : List ℕ) (i j f : ℕ) → length s ≤ i → 0 < f → commands f (drop i s) (drop j p) ≡ cond (eqb (length p - j) 0) (some []) none
unfolding commands
ended s p i j zero h l = absurd (omega arith)
ended s p i j (suc k) h l =
    let z : length (drop i s) ≡ 0 = rw length-drop (omega arith) in
    rw (eq-eqb (length (drop i s)) 0 z, length-drop)

module _ {s p : List ℕ} {i j : ℕ} {lacks : Bool} {t : ℕ} (d : CheckFrom s p i j lacks t) (h : length s ≤ i) where
  read : commands d.fuel (drop i s) (drop j p) ≡ cond (eqb (length p - j) 0) (some []) none
  read = ended s p i j d.fuel h (omega arith)

  pub end_left : j < length p → Malformed ≡ check_of s p
  end_left g = sym (d.same ∙ rw (read, ne_eqb (length p - j) 0 (λ e. omega arith)))

  module _ (g : length p ≤ j) where
    all_read : check_of s p ≡ checked_after lacks t (some []) p
    all_read = d.same ∙ rw (read, eq-eqb (length p - j) 0 (omega arith))

    pub end_lacks : lacks ≡ true → Lacking ≡ check_of s p
    end_lacks e = sym (all_read ∙ rw e)

    pub end_empty : lacks ≡ false → length p ≡ 0 → Empty ≡ check_of s p
    end_empty e z = sym (all_read ∙ rw (e, eq-eqb (length p) 0 z))

    pub end_bits : lacks ≡ false → (length p ≡ 0 → ⊥) → t ≤ most → Bits t ≡ check_of s p
    unfolding bits_of_segments
    end_bits e z m =
        let k : capped t ≡ t = chosen_less (λ x. x ≡ t) t most (λ q. refl) (λ q. omega arith) in
        sym (all_read ∙ rw (e, ne_eqb (length p) 0 z, add-zero, k))

pub limited : (r : Cost) (b : ℕ) → Limited r → r ≡ Takes b → b < 100000000
limited r b h e = rw e at h
