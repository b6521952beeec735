-- A mark made by the writer: what its making says, and what is read of its information. Assumes nothing.
use Rattle.general.proofs.Names.{◌≡◌, refl, sym, ap, ap₂, ◌∙◌, Bool, true, false, ◌&&◌, Option, none, some, List, [], ◌∷◌, ℕ, ◌+◌, ◌*◌, ◌/◌, leb-true, eqb-true}
use Rattle.general.proofs.Names.{◌%◌, ◌^◌, ◌-◌, ◌<◌, ◌≤◌, arith, ℕ_discrete, eq-eqb, ne_eqb, le-leb, lt-ltb, ltb-true, eqb, ltb, leb, length}
use mathlib.Core.Option.{get_or}
use Rattle.symbol.specs.Version.{side_of, is_version, is_side, side_version}
use Rattle.symbol.specs.Layout.{layout_of}
use Rattle.symbol.proofs.Theorems.{layout_length}
use Rattle.information.specs.Information.{is_info, info_bits, word_at, copy_of, info_flips, nearest_word, word_distance, NearestAnswer, nearest_of}
use Rattle.information.proofs.Apart.{word_lt}
use Rattle.information.proofs.Flips.{flips_distance, flips_nearest, write_then_first, write_then_second, info_length, info_bits_lem}
use Rattle.block_table.specs.Blocks.{shapes_of, has_blocks}
use Rattle.codewords.specs.Codewords.{mask_bit}
use Rattle.codewords.proofs.Back.{length_square}
use Rattle.blocks.specs.Blockwise.{stream_of}
use Rattle.segments.specs.Script.{Segment}
use Rattle.script.specs.Writer.{encodings}
use Rattle.script.specs.Check.{commands_of}
use Rattle.script.specs.Inner.{Fits, all_have, script_data}
use Rattle.marks.specs.Read.{first_refusal, unless, nearest_in}
use Rattle.marks.specs.Write.{Writing, room_of, segments_refusal, fits, write_refusal, mark_of, write_of}
use Rattle.marks.proofs.Refusals.{true_unless, first_none, both_true}
use Rattle.marks.proofs.Modules.{nearest_bits}
use Rattle.codewords.proofs.Masks.{mask_bit_lt}
use Rattle.codewords.proofs.Small.{Below, square_below}
use Rattle.codewords.specs.Inner.{square_of}
use Rattle.marks.specs.Inner.{level_in, mask_in, distance_in}

-- ---- version, level and mask in their ranges

pub record Ranges (v l k : ℕ) : Type 0 where
  pub low : 1 ≤ v
  pub high : v ≤ 84
  pub level : l ≤ 3
  pub mask : k ≤ 3

pub ranges : (v l k : ℕ) → is_info v l k ≡ true → Ranges v l k
unfolding is_info is_version
ranges v l k e =
    let a = both_true (leb 1 v && leb v 84) (leb l 3 && leb k 3) e in
    let b = both_true (leb 1 v) (leb v 84) a.0 in
    let c = both_true (leb l 3) (leb k 3) a.1 in
    record { low = leb-true 1 v b.0; high = leb-true v 84 b.1; level = leb-true l 3 c.0; mask = leb-true k 3 c.1 }

pub version_is : (v : ℕ) → 1 ≤ v → v ≤ 84 → is_version v ≡ true
unfolding is_version
version_is v a b = rw (le-leb 1 v a, le-leb v 84 b)

pub info_is : (v l k : ℕ) → Ranges v l k → is_info v l k ≡ true
unfolding is_info
info_is v l k R = rw (version_is v R.low R.high, le-leb l 3 R.level, le-leb k 3 R.mask)

-- a version's side is one, and says the version
pub side_is : (v : ℕ) → 1 ≤ v → v ≤ 84 → is_side (side_of v) ≡ true
unfolding is_side
side_is v a b = rw (le-leb 23 (side_of v) (omega arith), le-leb (side_of v) 189 (omega arith), eq-eqb (side_of v % 2) 1 (omega arith))

pub side_version_lem : (v : ℕ) → 1 ≤ v → v ≤ 84 → side_version (side_of v) ≡ v
unfolding side_version
side_version_lem v a b = rw (side_is v a b) (omega arith)

-- ---- what an accepted writing says

pub record Written (v l k : ℕ) (s p sq : List ℕ) : Type 0 where
  pub ranged : Ranges v l k
  pub blocked : has_blocks v l ≡ true
  pub size : length sq ≡ side_of v * side_of v
  pub fits : Fits s p (room_of v l)

-- ---- script and payload are accepted and fit: as numbers and tests, and as facts

accepted_fits : (s p : List ℕ) (n : ℕ) (z : Option (List Segment)) → commands_of s p ≡ z → segments_refusal z p ≡ 0
    → leb (length (encodings (get_or z []))) (8 * n) ≡ true → Fits s p n
accepted_fits s p n none q e h = absurd (omega arith)
accepted_fits s p n (some gs) q e h =
    let a = first_none (unless (all_have gs) 12) (unless (ltb 0 (length p)) 8 ∷ []) e in
    let b = first_none (unless (ltb 0 (length p)) 8) [] a.1 in
    record {
      segments = gs;
      are = q;
      have = true_unless (all_have gs) 11 a.0;
      filled = ltb-true 0 (length p) (true_unless (ltb 0 (length p)) 7 b.0);
      room = leb-true (length (encodings gs)) (8 * n) h;
    }

module _ (v l : ℕ) (s p : List ℕ) where
  pub script_fits : segments_refusal (commands_of s p) p ≡ 0 → fits v l s p ≡ true → Fits s p (room_of v l)
  unfolding fits
  script_fits e h = accepted_fits s p (room_of v l) (commands_of s p) refl e h

  module _ (F : Fits s p (room_of v l)) where
    pub fits_accepted : segments_refusal (commands_of s p) p ≡ 0
    unfolding first_refusal
    fits_accepted = rw F.are (rw (F.have, lt-ltb 0 (length p) F.filled))

    pub fits_true : fits v l s p ≡ true
    unfolding fits
    fits_true = rw F.are (le-leb (length (encodings F.segments)) (8 * room_of v l) F.room)

module _ (v l k : ℕ) (s p sq : List ℕ) where
  abbrev sized : Bool
  sized = eqb (length sq) (side_of v * side_of v)

  abbrev texts : List ℕ
  texts = segments_refusal (commands_of s p) p ∷ unless (fits v l s p) 13 ∷ []

  pub no_refusal : write_refusal v l k s p sq ≡ 0 → Written v l k s p sq
  unfolding write_refusal
  no_refusal e =
      let a = first_none (unless (is_info v l k) 1) (unless (has_blocks v l) 1 ∷ unless sized 2 ∷ texts) e in
      let b = first_none (unless (has_blocks v l) 1) (unless sized 2 ∷ texts) a.1 in
      let c = first_none (unless sized 2) texts b.1 in
      let d = first_none (segments_refusal (commands_of s p) p) (unless (fits v l s p) 13 ∷ []) c.1 in
      let f = first_none (unless (fits v l s p) 13) [] d.1 in
      record {
        ranged = ranges v l k (true_unless (is_info v l k) 0 a.0);
        blocked = true_unless (has_blocks v l) 0 b.0;
        size = eqb-true (length sq) (side_of v * side_of v) (true_unless sized 1 c.0);
        fits = script_fits v l s p d.0 (true_unless (fits v l s p) 12 f.0);
      }

  pub refused_not : Written v l k s p sq → write_refusal v l k s p sq ≡ 0
  unfolding write_refusal first_refusal
  refused_not W =
      let F = W.fits in
      rw (info_is v l k W.ranged, W.blocked, eq-eqb (length sq) (side_of v * side_of v) W.size, fits_accepted v l s p F, fits_true v l s p F)

  pub written : (m : List ℕ) → write_of v l k s p sq ≡ record { number = 0; square = m } → Written v l k s p sq × (m ≡ mark_of v l k s p)
  unfolding write_of
  written m e = elim (ℕ_discrete (write_refusal v l k s p sq) 0) [
    | yes z ↦ (no_refusal z, sym (ap (λ (w : Writing). w.square) e) ∙ simp (eq-eqb (write_refusal v l k s p sq) 0 z))
    | no d ↦ absurd (d (sym (simp (ne_eqb (write_refusal v l k s p sq) 0 d)) ∙ ap (λ (w : Writing). w.number) e))
  ]

-- ---- the mark as a square

module _ (v l k : ℕ) (s p : List ℕ) (R : Ranges v l k) where
  abbrev mark : List ℕ
  mark = mark_of v l k s p

  abbrev stream : List ℕ
  stream = stream_of (shapes_of v l) (script_data (room_of v l) (commands_of s p))

  abbrev base : List ℕ
  base = square_of (mask_bit (side_of v) k) (layout_of v) stream

  base_length : length base ≡ side_of v * side_of v
  base_length = length_square (mask_bit (side_of v) k) (layout_of v) stream ∙ layout_length v

  pub mark_length : length mark ≡ side_of v * side_of v
  unfolding mark_of
  mark_length = info_length (side_of v) (info_bits v l k) base ∙ base_length

  pub mark_below : Below 2 mark
  unfolding mark_of
  mark_below = info_bits_lem (side_of v) (info_bits v l k) base (square_below (mask_bit (side_of v) k) (layout_of v) stream (mask_bit_lt (side_of v) k))

  -- its word, among the sixteen of its version
  word_is : info_bits v l k ≡ word_at v (4 * l + k)
  unfolding word_at
  word_is =
      let a : l ≡ (4 * l + k) / 4 = omega (arith, R.mask) in
      let b : k ≡ (4 * l + k) % 4 = omega (arith, R.mask) in
      ap₂ (info_bits v) a b

  word_small : info_bits v l k < 2 ^ 34
  word_small = rw word_is (word_lt v (4 * l + k) R.high (omega (arith, R.level, R.mask)))

  -- with at most 8 information modules flipped, level and mask are those written
  module _ (h : List ℕ) (size : length h ≡ side_of v * side_of v) (b : Below 2 h) (few : info_flips (layout_of v) mark h ≤ 8) where
    abbrev copy : Bool → ℕ
    copy second = copy_of (side_of v) second h

    first_copy : copy_of (side_of v) false mark ≡ word_at v (4 * l + k)
    unfolding mark_of
    first_copy = write_then_first v R.low (info_bits v l k) base (omega (arith, base_length)) word_small ∙ word_is

    second_copy : copy_of (side_of v) true mark ≡ word_at v (4 * l + k)
    unfolding mark_of
    second_copy = write_then_second v R.low (info_bits v l k) base (omega (arith, base_length)) word_small ∙ word_is

    near : nearest_word v (copy false) (copy true) ≡ 4 * l + k
    near =
        flips_nearest v R.low mark h mark_length size (4 * l + k) mark_below b first_copy second_copy R.high (omega (arith, R.level, R.mask)) few

    found : nearest_in v h ≡ record { number = 0; level = l; mask = k; distance = word_distance v (copy false) (copy true) (4 * l + k) }
    unfolding nearest_of
    found =
        nearest_bits v h b
        ∙ simp (version_is v R.low R.high, near)
        (let a : (4 * l + k) / 4 ≡ l = omega (arith, R.mask) in
        let b : (4 * l + k) % 4 ≡ k = omega (arith, R.mask) in
        λ i. record { number = 0; level = a i; mask = b i; distance = word_distance v (copy false) (copy true) (4 * l + k) })

    pub level_is : level_in v h ≡ l
    level_is = ap (λ (x : NearestAnswer). x.level) found

    pub mask_is : mask_in v h ≡ k
    mask_is = ap (λ (x : NearestAnswer). x.mask) found

    pub distance_le : distance_in v h ≤ 8
    distance_le =
        omega (
          arith,
          ap (λ (x : NearestAnswer). x.distance) found,
          flips_distance v R.low mark h mark_length size (4 * l + k) mark_below b first_copy second_copy,
        )
