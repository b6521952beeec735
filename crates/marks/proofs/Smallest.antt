-- The lowest version that holds a script and payload, and the mark that is written there. Assumes nothing.
use Rattle.general.proofs.Names.{◌≡◌, refl, sym, ap, ◌∙◌, Bool, true, false, ◌&&◌, ◌≢◌, false≢true, Option, none, some, List, [], ◌∷◌, ◌++◌, ℕ, ◌*◌, ◌≤◌, ◌<◌}
use Rattle.general.proofs.Names.{arith, ℕ_discrete, eq-eqb, ne_eqb, le-leb, lt-leb, leb-true, leb-false, eqb, ltb, leb, length}
use Rattle.general.proofs.Names.{take, drop, take_at, drop_at, mul-le-mul}
use Rattle.general.proofs.Choices.{tested, chosen}
use Rattle.general.proofs.Lowest.{lowest_from, lowest_passes, lowest_first}
use Rattle.symbol.specs.Version.{side_of}
use Rattle.block_table.specs.Blocks.{has_blocks}
use Rattle.segments.specs.Script.{Segment}
use Rattle.script.specs.Check.{commands_of}
use Rattle.script.specs.Inner.{all_have}
use Rattle.marks.specs.Read.{first_refusal, unless}
use Rattle.marks.specs.Write.{segments_refusal, fits, write_refusal, mark_of, write_of}
use Rattle.marks.specs.Smallest.{Smallest, smallest, holds, lowest_version, smallest_refusal, smallest_of}
use Rattle.marks.specs.Promise.{Holds}
use Rattle.marks.proofs.Refusals.{true_unless, first_none, first_skips, first_takes, both_true}
use Rattle.marks.proofs.Marks.{Ranges, Written, script_fits, fits_accepted, fits_true, refused_not, written, mark_length}

-- ---- the lowest version

module _ (level : ℕ) (s p : List ℕ) where
  abbrev found : ℕ
  found = lowest_version level s p

  pub holds_parts : (v : ℕ) → Holds level s p v → (has_blocks v level ≡ true) × (fits v level s p ≡ true)
  unfolding holds
  holds_parts v H = both_true (has_blocks v level) (fits v level s p) H.2

  pub found_holds : found ≤ 84 → Holds level s p found
  unfolding lowest_version
  found_holds h = (lowest_from (holds level s p) 84 1, h, lowest_passes (holds level s p) 84 1 (omega arith))

  pub none_before : (u : ℕ) → u < found → Holds level s p u → ⊥
  unfolding lowest_version
  none_before u h H =
      let e : false ≡ true = sym (lowest_first (holds level s p) 84 1 u H.0 h) ∙ H.2 in
      absurd (false≢true e)

  pub found_below : (u : ℕ) → Holds level s p u → found ≤ u
  found_below u H = tested (leb found u) (leb-true found u) (λ e. absurd (none_before u (leb-false found u e) H))

-- ---- the refusals

first_le : (m n : ℕ) (ns : List ℕ) → n ≤ m → first_refusal ns ≤ m → first_refusal (n ∷ ns) ≤ m
unfolding first_refusal
first_le m n ns h k = chosen (λ (x : ℕ). x ≤ m) (eqb n 0) (λ e. k) (λ e. h)

unless_le : (b : Bool) (n : ℕ) → unless b n ≤ n
unless_le b n = chosen (λ (x : ℕ). x ≤ n) b (λ e. omega arith) (λ e. omega arith)

segments_le : (z : Option (List Segment)) (p : List ℕ) → segments_refusal z p ≤ 12
unfolding first_refusal
segments_le none p = omega arith
segments_le (some gs) p =
    first_le 12 (unless (all_have gs) 12) (unless (ltb 0 (length p)) 8 ∷ []) (unless_le (all_have gs) 12)
    (first_le 12 (unless (ltb 0 (length p)) 8) [] (omega (arith, unless_le (ltb 0 (length p)) 8)) (omega arith))

module _ (level mask : ℕ) (s p sq : List ℕ) where
  abbrev v : ℕ
  v = lowest_version level s p

  abbrev ranged : Bool
  ranged = leb level 3 && leb mask 3

  abbrev long : Bool
  long = leb (side_of v * side_of v) (length sq)

  abbrev last : List ℕ
  last = unless (leb v 84) 14 ∷ unless long 2 ∷ []

  -- nothing is refused exactly where level and mask are in their ranges, script and payload are accepted, a version holds them, and the
  -- square is long enough
  pub record Accepted : Type 0 where
    pub level_in : level ≤ 3
    pub mask_in : mask ≤ 3
    pub accepted : segments_refusal (commands_of s p) p ≡ 0
    pub high : v ≤ 84
    pub size : side_of v * side_of v ≤ length sq

  none_refused : smallest_refusal level mask s p sq ≡ 0 → Accepted
  unfolding smallest_refusal
  none_refused e =
      let a = first_none (unless ranged 1) (segments_refusal (commands_of s p) p ∷ last) e in
      let b = first_none (segments_refusal (commands_of s p) p) last a.1 in
      let c = first_none (unless (leb v 84) 14) (unless long 2 ∷ []) b.1 in
      let d = first_none (unless long 2) [] c.1 in
      let r = both_true (leb level 3) (leb mask 3) (true_unless ranged 0 a.0) in
      record {
        level_in = leb-true level 3 r.0;
        mask_in = leb-true mask 3 r.1;
        accepted = b.0;
        high = leb-true v 84 (true_unless (leb v 84) 13 c.0);
        size = leb-true (side_of v * side_of v) (length sq) (true_unless long 1 d.0);
      }

  pub refusal_one : ranged ≡ false → smallest_refusal level mask s p sq ≡ 1
  unfolding smallest_refusal first_refusal
  refusal_one e = rw e

  pub refusal_early : level ≤ 3 → mask ≤ 3 → segments_refusal (commands_of s p) p ≢ 0 → smallest_refusal level mask s p sq ≡ segments_refusal (commands_of s p) p
  unfolding smallest_refusal
  refusal_early l k d =
      first_skips (unless ranged 1) (segments_refusal (commands_of s p) p ∷ last) (rw (le-leb level 3 l, le-leb mask 3 k))
      ∙ first_takes (segments_refusal (commands_of s p) p) last d

  module _ (l : level ≤ 3) (k : mask ≤ 3) (a : segments_refusal (commands_of s p) p ≡ 0) where
    late_refusal : smallest_refusal level mask s p sq ≡ first_refusal last
    unfolding smallest_refusal first_refusal
    late_refusal = rw (le-leb level 3 l, le-leb mask 3 k, a)

    pub refusal_none : v ≤ 84 → side_of v * side_of v ≤ length sq → smallest_refusal level mask s p sq ≡ 0
    unfolding first_refusal
    refusal_none h n = late_refusal ∙ rw (le-leb v 84 h, le-leb (side_of v * side_of v) (length sq) n)

    pub refusal_fourteen : 84 < v → smallest_refusal level mask s p sq ≡ 14
    unfolding first_refusal
    refusal_fourteen h = late_refusal ∙ rw (lt-leb v 84 h)

    pub refusal_two : v ≤ 84 → length sq < side_of v * side_of v → smallest_refusal level mask s p sq ≡ 2
    unfolding first_refusal
    refusal_two h n = late_refusal ∙ rw (le-leb v 84 h, lt-leb (side_of v * side_of v) (length sq) n)

  -- ---- what is answered

  -- a refusal leaves the square, and no version is answered
  pub answers_refusal : (n : ℕ) → n ≢ 0 → n ≡ smallest_refusal level mask s p sq → smallest n 0 sq ≡ smallest_of level mask s p sq
  unfolding smallest_of
  answers_refusal n d e = rw (ne_eqb (smallest_refusal level mask s p sq) 0 (λ z. d (e ∙ z)), e)

  pub answers_mark : smallest_refusal level mask s p sq ≡ 0
      → smallest 0 v (mark_of v level mask s p ++ drop (side_of v * side_of v) sq) ≡ smallest_of level mask s p sq
  unfolding smallest_of
  answers_mark z = rw (eq-eqb (smallest_refusal level mask s p sq) 0 z)

  abbrev number : ℕ
  number = (smallest_of level mask s p sq).number

  number_is : number ≡ smallest_refusal level mask s p sq
  number_is = elim (ℕ_discrete (smallest_refusal level mask s p sq) 0) [
    | yes z ↦ sym (ap (λ (x : Smallest). x.number) (answers_mark z)) ∙ sym z
    | no d ↦ sym (ap (λ (x : Smallest). x.number) (answers_refusal (smallest_refusal level mask s p sq) d refl))
  ]

  -- 14: no version holds them
  pub fourteen : number ≡ 14 → (u : ℕ) → Holds level s p u → ⊥
  unfolding smallest_refusal first_refusal
  fourteen e u H =
      let h : smallest_refusal level mask s p sq ≤ 12 =
      rw (le-leb v 84 (omega (arith, found_below level s p u H, H.1)))
      (first_le 12 (unless ranged 1) (segments_refusal (commands_of s p) p ∷ 0 ∷ unless long 2 ∷ []) (omega (arith, unless_le ranged 1))
      (first_le 12 (segments_refusal (commands_of s p) p) (0 ∷ unless long 2 ∷ []) (segments_le (commands_of s p) p)
      (first_le 12 (unless long 2) [] (omega (arith, unless_le long 2)) (omega arith)))) in
      absurd (omega (arith, number_is, h))

  module _ (l : level ≤ 3) (k : mask ≤ 3) (a : segments_refusal (commands_of s p) p ≡ 0) where
    pub none_fourteen : ((u : ℕ) → Holds level s p u → ⊥) → smallest_of level mask s p sq ≡ smallest 14 0 sq
    none_fourteen none-holds =
        let h : 84 < v = tested (leb v 84) (λ e. absurd (none-holds v (found_holds level s p (leb-true v 84 e)))) (leb-false v 84) in
        sym (answers_refusal 14 (λ z. omega arith) (sym (refusal_fourteen l k a h)))

    pub some_found : (u : ℕ) → Holds level s p u → side_of u * side_of u ≤ length sq → number ≡ 0
    some_found u H n =
        let h = found_below level s p u H in
        let m : side_of v * side_of v ≤ side_of u * side_of u = mul-le-mul (omega arith) (omega arith) in
        number_is ∙ refusal_none l k a (omega (arith, h, H.1)) (omega (arith, m, n))

  -- where Write a square writes, the version holds them
  module _ (u : ℕ) (b m : List ℕ) (e : write_of u level mask s p b ≡ record { number = 0; square = m }) where
    pub written_holds : Holds level s p u
    unfolding holds
    written_holds =
        let W = (written u level mask s p b m e).0 in
        (W.ranged.low, W.ranged.high, rw (W.blocked, fits_true u level s p W.fits))

    pub written_found : length b ≤ length sq → number ≡ 0
    written_found n =
        let W = (written u level mask s p b m e).0 in
        some_found W.ranged.level W.ranged.mask (fits_accepted u level s p W.fits) u written_holds (omega (arith, W.size, n))

  -- an accepted writing: the version found, and the square
  module _ (u : ℕ) (after : List ℕ) (made : smallest_of level mask s p sq ≡ record { number = 0; version = u; square = after }) where
    zero_refused : smallest_refusal level mask s p sq ≡ 0
    zero_refused = sym number_is ∙ ap (λ (x : Smallest). x.number) made

    pub is_accepted : Accepted
    is_accepted = none_refused zero_refused

    whole : smallest 0 v (mark_of v level mask s p ++ drop (side_of v * side_of v) sq) ≡ smallest 0 u after
    whole = answers_mark zero_refused ∙ made

    pub is_found : v ≡ u
    is_found = ap (λ (x : Smallest). x.version) whole

    pub is_square : mark_of u level mask s p ++ drop (side_of u * side_of u) sq ≡ after
    is_square = rw is_found at (ap (λ (x : Smallest). x.square) whole)

    pub in_ranges : Ranges u level mask
    in_ranges =
        let A = is_accepted in
        let H = found_holds level s p A.high in
        record { low = omega (arith, is_found, H.0); high = omega (arith, is_found, H.1); level = A.level_in; mask = A.mask_in }

    pub version_holds : Holds level s p u
    version_holds = rw is_found at (found_holds level s p is_accepted.high)

    whole_length : length (mark_of u level mask s p) ≡ side_of u * side_of u
    whole_length = mark_length u level mask s p in_ranges

    pub front_is : take (side_of u * side_of u) after ≡ mark_of u level mask s p
    front_is = rw (← is_square) (take_at (mark_of u level mask s p) (drop (side_of u * side_of u) sq) (side_of u * side_of u) whole_length)

    pub beyond_is : drop (side_of u * side_of u) after ≡ drop (side_of u * side_of u) sq
    beyond_is = rw (← is_square) (drop_at (mark_of u level mask s p) (drop (side_of u * side_of u) sq) (side_of u * side_of u) whole_length)

    pub written_there : (b : List ℕ) → length b ≡ side_of u * side_of u
        → write_of u level mask s p b ≡ record { number = 0; square = take (side_of u * side_of u) after }
    unfolding write_of
    written_there b n =
        let H = holds_parts level s p u version_holds in
        let W : Written u level mask s p b = record {
          ranged = in_ranges;
          blocked = H.0;
          size = n;
          fits = script_fits u level s p is_accepted.accepted H.1;
        } in
        rw (eq-eqb (write_refusal u level mask s p b) 0 (refused_not u level mask s p b W), front_is)
