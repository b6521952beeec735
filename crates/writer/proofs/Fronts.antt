-- A mark in front of a square, at a version for which a script and payload fit, and the search for the lowest. Assumes nothing.
use Rattle.general.proofs.Names.{◌≡◌, refl, sym, ap, ◌∙◌, ◌≢◌, Bool, true, false, false≢true, List, [], ◌∷◌, ◌++◌, ℕ, ◌+◌, ◌-◌, ◌*◌, ◌≤◌, ◌<◌, arith}
use Rattle.general.proofs.Names.{ℕ_discrete, eq-eqb, ne_eqb, le-leb, lt-leb, leb-true, leb-false, eqb, leb, length}
use Rattle.general.proofs.Names.{take, drop, take-append-drop, length-take-le}
use Rattle.general.proofs.Choices.{tested}
use Rattle.general.proofs.Lowest.{lowest_from, lowest_to, lowest_passes, search_stops, search_goes_on, search_ends, search_begins}
use Rattle.general.specs.Lists.{lowest}
use Rattle.symbol.specs.Version.{side_of, is_version}
use Rattle.information.specs.Information.{is_info}
use Rattle.block_table.specs.Blocks.{has_blocks}
use Rattle.script.specs.declared.Check.{Check}
use Rattle.script.specs.declared.Check.TheVariants.{Bits}
use Rattle.script.specs.Inner.{Fits, check_of}
use Rattle.marks.specs.Read.{first_refusal, unless}
use Rattle.marks.specs.Write.{Writing, room_of, writing_of, fits, write_refusal, mark_of, write_of}
use Rattle.marks.specs.Smallest.{smallest, holds, lowest_version, smallest_of}
use Rattle.marks.proofs.Marks.{Ranges, info_is, script_fits, fits_accepted, fits_true}
use Rattle.marks.proofs.Refusals.{true_unless, first_none}
use Rattle.marks.proofs.Smallest as small
use Rattle.marks.proofs.Starts.{and_false}
use Rattle.writer.specs.Inner.{script_refusal, front_refusal, front_of}
use Rattle.writer.proofs.DataRoom.{room_small}
use Rattle.writer.proofs.Refusals.{answered, check_other, check_bits, check_fits}

-- script and payload that fit are not refused
pub fits_open : (v l : ℕ) (s p : List ℕ) → Fits s p (room_of v l) → 0 ≡ script_refusal v l s p
unfolding script_refusal first_refusal
fits_open v l s p F = rw (fits_accepted v l s p F, fits_true v l s p F)

-- ---- what is answered for a version: what Write a square answers for the part of the square that is lent to it

module _ (v l k : ℕ) (s p sq : List ℕ) where
  abbrev size : ℕ
  size = side_of v * side_of v

  abbrev long : Bool
  long = leb size (length sq)

  -- no word for the three
  pub front_no_word : is_info v l k ≡ false → writing_of 1 sq ≡ front_of v l k s p sq
  unfolding front_of front_refusal first_refusal
  front_no_word e = rw e

  -- the first n bytes are lent
  lent : (n x : ℕ) (g : List ℕ) → write_refusal v l k s p (take n sq) ≡ front_refusal v l k sq → (front_refusal v l k sq ≡ 0 → n ≡ size)
      → writing_of x g ≡ write_of v l k s p (take n sq) → writing_of x (g ++ drop n sq) ≡ front_of v l k s p sq
  unfolding write_of front_of
  lent n x g e f w =
      ap (λ (y : Writing). writing_of y.number (y.square ++ drop n sq)) w
      ∙ elim (ℕ_discrete (front_refusal v l k sq) 0) [
        | yes z ↦ rw (e, z, f z)
        | no d ↦ rw (e, ne_eqb (front_refusal v l k sq) 0 d, take-append-drop n sq)
      ]

  zero_long : front_refusal v l k sq ≡ 0 → long ≡ true
  unfolding front_refusal
  zero_long z =
      let a = first_none (unless (is_info v l k) 1) (unless (has_blocks v l) 1 ∷ unless long 2 ∷ []) z in
      let b = first_none (unless (has_blocks v l) 1) (unless long 2 ∷ []) a.1 in
      true_unless long 1 (first_none (unless long 2) [] b.1).0

  module _ (R : Ranges v l k) (F : Fits s p (room_of v l)) where
    same_number : (q : List ℕ) → eqb (length q) size ≡ long → write_refusal v l k s p q ≡ front_refusal v l k sq
    unfolding write_refusal front_refusal first_refusal
    same_number q e = rw (info_is v l k R, fits_accepted v l s p F, fits_true v l s p F, e)

    -- as many as the mark has ..
    pub front_lent : (n x : ℕ) (g : List ℕ) → n ≡ size → n ≤ length sq → writing_of x g ≡ write_of v l k s p (take n sq)
        → writing_of x (g ++ drop n sq) ≡ front_of v l k s p sq
    front_lent n x g e h =
        lent n x g (same_number (take n sq) (eq-eqb (length (take n sq)) size (length-take-le n sq h ∙ e) ∙ sym (le-leb size (length sq) (omega arith))))
        (λ z. e)

    -- .. or none, where the square is shorter
    pub front_short : (x : ℕ) (g : List ℕ) → length sq < size → writing_of x g ≡ write_of v l k s p [] → writing_of x (g ++ sq) ≡ front_of v l k s p sq
    front_short x g h =
        let short : long ≡ false = lt-leb size (length sq) h in
        lent 0 x g (same_number [] (ne_eqb 0 size (λ z. omega arith) ∙ sym short)) (λ z. absurd (false≢true (sym short ∙ zero_long z)))

-- ---- the search

-- version v, or 85, is the next that has room for n bits, and the lowest version that holds script and payload is not below it
pub record Candidate (level n : ℕ) (s p : List ℕ) (v : ℕ) : Type 0 where
  pub low : 1 ≤ v
  pub high : v ≤ 85
  pub room : v < 85 → leb n (8 * room_of v level) ≡ true
  pub rest : lowest_version level s p ≡ lowest (holds level s p) (85 - v) v

-- n bits are those of script and payload, at a level
module _ (level n : ℕ) (s p : List ℕ) (l : level ≤ 3) (e : Bits n ≡ check_of s p) where
  abbrev room_for : ℕ → Bool
  room_for v = leb n (8 * room_of v level)

  room_fits : (v : ℕ) → 1 ≤ v → v < 85 → room_for v ≡ fits v level s p
  room_fits v low high = check_fits s p v level n (room_small v level low (omega arith) l) e

  no_room : (v : ℕ) → 1 ≤ v → v < 85 → room_for v ≡ false → holds level s p v ≡ false
  unfolding holds
  no_room v low high f = rw (← room_fits v low high, f) (and_false (has_blocks v level))

  module _ (from r : ℕ) (low : 1 ≤ from) (high : from ≤ 85) (rest : lowest_version level s p ≡ lowest (holds level s p) (85 - from) from)
      (f : r ≡ lowest room_for (85 - from) from) where
    pub candidate : Candidate level n s p r
    candidate =
        let a = lowest_from room_for (85 - from) from in
        let b = lowest_to room_for (85 - from) from in
        record {
          low = omega (arith, a, f);
          high = omega (arith, b, f);
          room = λ h. rw f (lowest_passes room_for (85 - from) from (omega (arith, h, f)));
          rest = rest ∙ rw f (search_begins room_for (holds level s p) from 85 high (λ i c d. no_room i (omega arith) d));
        }

  -- the first candidate, and the next behind one without blocks
  pub candidate_first : (r : ℕ) → r ≡ lowest room_for 84 1 → Candidate level n s p r
  unfolding lowest_version
  candidate_first r f = candidate 1 r (omega arith) (omega arith) refl f

  module _ (v : ℕ) (C : Candidate level n s p v) (h : v < 85) where
    pub candidate_fits : Fits s p (room_of v level)
    candidate_fits = script_fits v level s p (check_bits s p n e) (sym (room_fits v C.low h) ∙ C.room h)

    pub candidate_later : (r : ℕ) → r ≡ lowest room_for (85 - (v + 1)) (v + 1) → v < r
    candidate_later r f = omega (arith, f, lowest_from room_for (85 - (v + 1)) (v + 1))

    pub candidate_next : (r : ℕ) → has_blocks v level ≡ false → r ≡ lowest room_for (85 - (v + 1)) (v + 1) → Candidate level n s p r
    unfolding holds
    candidate_next r b f =
        candidate (v + 1) r (omega arith) (omega arith) (C.rest ∙ search_goes_on (holds level s p) v 85 h (rw b)) f

    -- x is the number for this version, and g the square behind it
    module _ (mask : ℕ) (k : mask ≤ 3) (sq g : List ℕ) (x : ℕ) (w : writing_of x g ≡ front_of v level mask s p sq) where
      abbrev there : Bool
      there = has_blocks v level

      abbrev wide : Bool
      wide = long v level mask s p sq

      number : front_refusal v level mask sq ≡ first_refusal (unless there 1 ∷ unless wide 2 ∷ [])
      unfolding front_refusal first_refusal
      number = rw (info_is v level mask (record { low = C.low; high = omega arith; level = l; mask = k }))

      found : there ≡ true → lowest_version level s p ≡ v
      unfolding holds
      found b = C.rest ∙ search_stops (holds level s p) v 85 h (rw (b, ← room_fits v C.low h) (C.room h))

      refuses : (y : ℕ) → y ≢ 0 → front_refusal v level mask sq ≡ y → (x ≡ y) × (g ≡ sq)
      unfolding front_of
      refuses y d f =
          let a : writing_of x g ≡ writing_of y sq = w ∙ rw (f, ne_eqb y 0 d) in
          (ap (λ (z : Writing). z.number) a, ap (λ (z : Writing). z.square) a)

      writes : front_refusal v level mask sq ≡ 0 → (x ≡ 0) × (g ≡ mark_of v level mask s p ++ drop (side_of v * side_of v) sq)
      unfolding front_of
      writes f =
          let a : writing_of x g ≡ writing_of 0 (mark_of v level mask s p ++ drop (side_of v * side_of v) sq) = w ∙ rw f in
          (ap (λ (z : Writing). z.number) a, ap (λ (z : Writing). z.square) a)

      one : there ≡ false → (x ≡ 1) × (g ≡ sq)
      unfolding first_refusal
      one b = refuses 1 (λ z. omega arith) (number ∙ rw b)

      two : there ≡ true → wide ≡ false → (x ≡ 2) × (g ≡ sq)
      unfolding first_refusal
      two b f = refuses 2 (λ z. omega arith) (number ∙ rw (b, f))

      zero : there ≡ true → wide ≡ true → (x ≡ 0) × (g ≡ mark_of v level mask s p ++ drop (side_of v * side_of v) sq)
      unfolding first_refusal
      zero b t = writes (number ∙ rw (b, t))

      -- 0: this is the smallest mark ..
      pub front_zero : x ≡ 0 → smallest 0 v g ≡ smallest_of level mask s p sq
      front_zero z =
          tested there
          (λ b. tested wide (λ t. go b t) (λ f. absurd (omega (arith, (two b f).0))))
          (λ b. absurd (omega (arith, (one b).0)))
        where
          go : there ≡ true → wide ≡ true → smallest 0 v g ≡ smallest_of level mask s p sq
          go b t =
              let f = found b in
              let a = small.answers_mark level mask s p sq
              (small.refusal_none level mask s p sq l k (check_bits s p n e) (omega (arith, f)) (rw f (leb-true (side_of v * side_of v) (length sq) t))) in
              rw (zero b t).1 (rw f at a)

      -- .. 1: the search goes on behind it ..
      pub front_one : x ≡ 1 → (there ≡ false) × (g ≡ sq)
      front_one z =
          tested there
          (λ b. tested wide (λ t. absurd (omega (arith, (zero b t).0))) (λ f. absurd (omega (arith, (two b f).0))))
          (λ b. (b, (one b).1))

      -- .. 2: its square is longer
      pub front_other : x ≢ 0 → x ≢ 1 → smallest x 0 g ≡ smallest_of level mask s p sq
      front_other d d' =
          tested there
          (λ b. tested wide (λ t. absurd (d (zero b t).0)) (λ f. go b f))
          (λ b. absurd (d' (one b).0))
        where
          go : there ≡ true → wide ≡ false → smallest x 0 g ≡ smallest_of level mask s p sq
          go b f =
              let y = found b in
              let a = small.answers_refusal level mask s p sq 2 (λ z. omega arith)
              (sym (small.refusal_two level mask s p sq l k (check_bits s p n e) (omega (arith, y)) (rw y (leb-false (side_of v * side_of v) (length sq) f)))) in
              rw ((two b f).0, (two b f).1) a

  -- behind the last version: 14
  pub search_over : (v mask : ℕ) → Candidate level n s p v → 84 < v → mask ≤ 3 → (sq : List ℕ) → smallest 14 0 sq ≡ smallest_of level mask s p sq
  search_over v mask C h k sq =
      let f = C.rest ∙ search_ends (holds level s p) v 85 (omega arith) in
      small.answers_refusal level mask s p sq 14 (λ z. omega arith)
      (sym (small.refusal_fourteen level mask s p sq l k (check_bits s p n e) (omega (arith, f))))

-- ---- the first refusals

module _ (level mask : ℕ) (s p sq : List ℕ) where
  -- level or mask outside its range: no version has a word for them, and so not the first
  pub ranges_refused : (b : Bool) → b ≡ is_info 1 level mask → b ≡ false → smallest 1 0 sq ≡ smallest_of level mask s p sq
  unfolding is_info is_version
  ranges_refused b e f = small.answers_refusal level mask s p sq 1 (λ z. omega arith) (sym (small.refusal_one level mask s p sq (sym e ∙ f)))

  -- script and payload refused by their check
  pub check_refused : level ≤ 3 → mask ≤ 3 → (c k : Check) → answered k ≢ 0 → c ≡ k → c ≡ check_of s p
      → smallest (answered k) 0 sq ≡ smallest_of level mask s p sq
  check_refused l m c k d e f =
      let n = check_other s p c k e f in
      small.answers_refusal level mask s p sq (answered k) d (n ∙ sym (small.refusal_early level mask s p sq l m (λ z. d (n ∙ z))))
