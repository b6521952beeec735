-- The refusals of writing, part by part: each function's number is the one that writing gives. Assumes nothing.
use Rattle.general.proofs.Names.{◌≡◌, refl, sym, ap, ◌∙◌, ◌≢◌, Bool, true, false, cond, Option, none, some, List, [], ◌∷◌, ◌++◌, ℕ, ◌*◌, ◌≤◌, ◌<◌, arith}
use Rattle.general.proofs.Names.{eq-eqb, ne_eqb, le-leb, lt-leb, eqb-true, eqb-false, lt-ltb, eqb, ltb, leb, length, take}
use mathlib.Core.Option.{get_or}
use Rattle.symbol.specs.Version.{side_of}
use Rattle.symbol.specs.Layout.{layout_of}
use Rattle.information.specs.Information.{is_info}
use Rattle.block_table.specs.Blocks.{total_of, has_blocks}
use Rattle.symbol.specs.Layout.{data_modules}
use Rattle.segments.specs.Script.{Segment}
use Rattle.script.specs.declared.Check.{Check}
use Rattle.script.specs.declared.Check.TheVariants.{Bits, Malformed, Lacking, Empty}
use Rattle.script.specs.Writer.{encodings}
use Rattle.script.specs.Lengths.{bits_of_segments}
use Rattle.script.specs.Check.{commands_of}
use Rattle.script.specs.Inner.{capped, checked_of, check_of, all_have}
use Rattle.script.proofs.Scripts.{positive}
use Rattle.script.proofs.Theorems.{bits_by_formulas, capped_fits}
use Rattle.marks.specs.Read.{first_refusal, unless}
use Rattle.marks.specs.Write.{room_of, writing_of, segments_refusal, fits, write_refusal, mark_of, write_of}
use Rattle.marks.proofs.Marks.{info_is}
use Rattle.marks.proofs.Refusals.{unless_true, unless_false, first_skips, first_takes, first_left, first_right, first_one}
use Rattle.marks.proofs.Starts.{has_blocks_lem, no_blocks}
use Rattle.writer.specs.declared.Mark.{Mark}
use Rattle.writer.proofs.Starts.{in_ranges}
use Rattle.writer.specs.Inner.{ValidMark, MarkWithLayout, place_refusal, script_refusal}

-- ---- 13: more bits than there is room for

-- n is the number of data codewords
module _ (v l bits n : ℕ) (e : n ≡ room_of v l) where
  pub too_many : 8 * n < bits → 13 ≡ unless (leb bits (8 * room_of v l)) 13
  too_many h = sym (unless_false (leb bits (8 * room_of v l)) 13 (lt-leb bits (8 * room_of v l) (omega arith)))

  pub no_more : bits ≤ 8 * n → 0 ≡ unless (leb bits (8 * room_of v l)) 13
  no_more h = sym (unless_true (leb bits (8 * room_of v l)) 13 (le-leb bits (8 * room_of v l) (omega arith)))

-- ---- 11, 12, 8, 13: script and payload, by the case c of the check's answer

-- the number of an answer, 0 for a number of bits
abbrev pub answered : Check → ℕ
answered Malformed = 11
answered Lacking = 12
answered Empty = 8
answered (Bits n) = 0

-- it is that of the segments
checked : (p : List ℕ) (z : Option (List Segment)) → answered (checked_of z p) ≡ segments_refusal z p
unfolding first_refusal
checked p none = refl
checked p (some gs) = go (all_have gs) (eqb (length p) 0) refl
  where
    go : (x y : Bool) → eqb (length p) 0 ≡ y
        → answered (cond x (cond y Empty (Bits (capped (bits_of_segments gs)))) Lacking) ≡ first_refusal (unless x 12 ∷ unless (ltb 0 (length p)) 8 ∷ [])
    go false y e = refl
    go true true e = rw (eqb-true (length p) 0 e)
    go true false e = rw (lt-ltb 0 (length p) (positive (length p) (eqb-false (length p) 0 e)))

-- and the number of bits fits where the bits of the segments do, though it stops at some
fitting : (room n : ℕ) (p : List ℕ) (z : Option (List Segment)) → room ≤ 3886 → Bits n ≡ checked_of z p
    → leb n (8 * room) ≡ leb (length (encodings (get_or z []))) (8 * room)
fitting room n p none small e = absurd (omega (arith, ap answered e))
fitting room n p (some gs) small e = go (all_have gs) refl (eqb (length p) 0) e
  where
    bits : Check → ℕ
    bits (Bits m) = m
    bits Malformed = 0
    bits Lacking = 0
    bits Empty = 0

    go : (x : Bool) → all_have gs ≡ x → (y : Bool) → Bits n ≡ cond x (cond y Empty (Bits (capped (bits_of_segments gs)))) Lacking
        → leb n (8 * room) ≡ leb (length (encodings gs)) (8 * room)
    go false h y e = absurd (omega (arith, ap answered e))
    go true h true e = absurd (omega (arith, ap answered e))
    go true h false e = rw (ap bits e, bits_by_formulas gs h) (capped_fits (bits_of_segments gs) room small)

module _ (s p : List ℕ) where
  -- script and payload are refused ..
  pub check_other : (c k : Check) → c ≡ k → c ≡ check_of s p → answered k ≡ segments_refusal (commands_of s p) p
  check_other c k e f = ap answered (sym e ∙ f) ∙ checked p (commands_of s p)

  -- .. or accepted with a number of bits
  pub check_bits : (n : ℕ) → Bits n ≡ check_of s p → segments_refusal (commands_of s p) p ≡ 0
  check_bits n e = sym (check_other (Bits n) (Bits n) refl e)

  module _ (v l : ℕ) where
    pub check_fits : (n : ℕ) → room_of v l ≤ 3886 → Bits n ≡ check_of s p → leb n (8 * room_of v l) ≡ fits v l s p
    unfolding fits
    check_fits n small e = fitting (room_of v l) n p (commands_of s p) small e

    pub script_bits : (c : Check) (n x : ℕ) → room_of v l ≤ 3886 → c ≡ Bits n → c ≡ check_of s p → x ≡ unless (leb n (8 * room_of v l)) 13
        → x ≡ script_refusal v l s p
    unfolding script_refusal
    script_bits c n x small e f h =
        h ∙ ap (λ (b : Bool). unless b 13) (check_fits n small (sym e ∙ f))
        ∙ sym (first_skips (segments_refusal (commands_of s p) p) (unless (fits v l s p) 13 ∷ []) (check_bits n (sym e ∙ f))
        ∙ first_one (unless (fits v l s p) 13))

    pub script_other : (c k : Check) → answered k ≢ 0 → c ≡ k → c ≡ check_of s p → answered k ≡ script_refusal v l s p
    unfolding script_refusal
    script_other c k d e f =
        let n = check_other c k e f in
        n ∙ sym (first_takes (segments_refusal (commands_of s p) p) (unless (fits v l s p) 13 ∷ []) (λ z. d (n ∙ z)))

-- ---- 1 and 2: the version's data modules, and the size of the square

module _ (m : Mark) (ks : List ℕ) (R : MarkWithLayout m ks) (size side total r : ℕ) (es : side ≡ side_of m.version) (et : total ≡ total_of m.version)
    (er : r ≡ data_modules (take (side * side) ks)) where
  abbrev blocks : Bool
  blocks = has_blocks m.version m.level

  abbrev sized : Bool
  sized = eqb size (side_of m.version * side_of m.version)

  counted : r ≡ data_modules (layout_of m.version)
  counted = er ∙ rw (es, R.kinds)

  pub too_few : r < 8 * total → 1 ≡ place_refusal m.version m.level size
  unfolding place_refusal first_refusal
  too_few h = rw (no_blocks m.version m.level (omega (arith, counted)))

  module _ (h : 8 * total ≤ r) where
    blocked : place_refusal m.version m.level size ≡ unless sized 2
    unfolding place_refusal
    blocked =
        let b = has_blocks_lem m.version m.level R.valid.low R.valid.high R.valid.level (omega (arith, counted)) in
        first_skips (unless blocks 1) (unless sized 2 ∷ []) (unless_true blocks 1 b) ∙ first_one (unless sized 2)

    squared : side * side ≡ side_of m.version * side_of m.version
    squared = ap (λ (n : ℕ). n * n) es

    pub wrong_size : size ≢ side * side → 2 ≡ place_refusal m.version m.level size
    wrong_size d = sym (blocked ∙ unless_false sized 2 (ne_eqb size (side_of m.version * side_of m.version) (λ e. d (e ∙ sym squared))))

    pub right_size : size ≡ side * side → 0 ≡ place_refusal m.version m.level size
    right_size e = sym (blocked ∙ unless_true sized 2 (eq-eqb size (side_of m.version * side_of m.version) (e ∙ squared)))

-- ---- what a writing answers

module _ (v l k : ℕ) (s p sq : List ℕ) where
  abbrev refusal : ℕ
  refusal = write_refusal v l k s p sq

  -- a refusal leaves the square
  answers_refusal : (n : ℕ) → n ≢ 0 → n ≡ refusal → writing_of n sq ≡ write_of v l k s p sq
  unfolding write_of
  answers_refusal n d e = rw (ne_eqb refusal 0 (λ z. d (e ∙ z)), e)

  -- no refusal: the mark
  answers_mark : (g : List ℕ) → refusal ≡ 0 → g ≡ mark_of v l k s p → writing_of 0 g ≡ write_of v l k s p sq
  unfolding write_of
  answers_mark g z e = rw (eq-eqb refusal 0 z, e)

  abbrev places : List ℕ
  places = unless (has_blocks v l) 1 ∷ unless (eqb (length sq) (side_of v * side_of v)) 2 ∷ []

  abbrev texts : List ℕ
  texts = segments_refusal (commands_of s p) p ∷ unless (fits v l s p) 13 ∷ []

  -- version, level or mask outside its range
  pub answers_one : is_info v l k ≡ false → writing_of 1 sq ≡ write_of v l k s p sq
  unfolding write_refusal
  answers_one e =
      let u : unless (is_info v l k) 1 ≡ 1 = unless_false (is_info v l k) 1 e in
      answers_refusal 1 (λ z. omega arith) (sym (first_takes (unless (is_info v l k) 1) (places ++ texts) (λ z. omega arith) ∙ u))

-- the three in their ranges, and x the number of the place
module _ (m : Mark) (R : ValidMark m) (s p sq : List ℕ) (x : ℕ) (e : x ≡ place_refusal m.version m.level (length sq)) where
  abbrev number : ℕ
  number = write_refusal m.version m.level m.mask s p sq

  abbrev first : List ℕ
  first = places m.version m.level m.mask s p sq

  abbrev second : List ℕ
  second = texts m.version m.level m.mask s p sq

  behind : number ≡ first_refusal (first ++ second)
  unfolding write_refusal
  behind =
      let i = info_is m.version m.level m.mask (in_ranges R) in
      first_skips (unless (is_info m.version m.level m.mask) 1) (first ++ second) (unless_true (is_info m.version m.level m.mask) 1 i)

  -- where it is not 0, it is the answer
  pub answers_place : x ≢ 0 → writing_of x sq ≡ write_of m.version m.level m.mask s p sq
  unfolding place_refusal
  answers_place d = answers_refusal m.version m.level m.mask s p sq x d (e ∙ sym (behind ∙ first_left first second (λ z. d (e ∙ z))))

  -- else the number y of script and payload is
  module _ (z : x ≡ 0) (y : ℕ) (f : y ≡ script_refusal m.version m.level s p) where
    script_number : y ≡ number
    unfolding place_refusal script_refusal
    script_number = f ∙ sym (behind ∙ first_right first second (sym e ∙ z))

    pub answers_script : y ≢ 0 → writing_of y sq ≡ write_of m.version m.level m.mask s p sq
    answers_script d = answers_refusal m.version m.level m.mask s p sq y d script_number

    -- and where both are 0, nothing is refused, and the mark is written
    module _ (o : y ≡ 0) where
      pub none_refused : number ≡ 0
      none_refused = sym script_number ∙ o

      pub answers_zero : (g : List ℕ) → g ≡ mark_of m.version m.level m.mask s p → writing_of 0 g ≡ write_of m.version m.level m.mask s p sq
      answers_zero g h = answers_mark m.version m.level m.mask s p sq g none_refused h
