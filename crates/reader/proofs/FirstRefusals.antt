-- How a reading begins: the receipt, the first refusals, and what is read when they are passed. Assumes nothing.
use Rattle.general.proofs.Names.{◌≡◌, refl, sym, ap, ◌∙◌, ◌≢◌, Bool, true, false, cond, List, [], ◌∷◌, ℕ, ◌*◌, ◌≤◌, ◌<◌, arith, ℕ_discrete, le-leb, eqb-true}
use Rattle.general.proofs.Names.{lt-leb, eqb, leb, length, get_or}
use Rattle.symbol.specs.Version.{side_of, is_side, side_version, side_refusal, version_of}
use Rattle.symbol.specs.Version.{side_number}
use Rattle.symbol.specs.declared.Version.{Version}
use Rattle.symbol.specs.declared.FromSide.{FromSide}
use Rattle.symbol.specs.declared.FromSide.TheVariants as from-side
use Rattle.information.specs.declared.NearestInfo.{NearestInfo}
use Rattle.information.specs.declared.NearestInfo.TheVariants.{Nearest, NoVersion}
use Rattle.information.specs.Information.{is_info, copy_of, NearestAnswer, nearest_of, nearest_answer}
use Rattle.block_table.specs.Blocks.{has_blocks}
use Rattle.marks.specs.Receipt.{refusal_receipt}
use Rattle.marks.specs.Read.{Reading, reading_of, refused, first_refusal, unless, read_refusal, known_refusal, body_of}
use Rattle.marks.specs.Read.{with_receipt, read_of, read_known_of, nearest_in}
use Rattle.marks.proofs.Refusals.{true_unless, unless_true, unless_false, first_skips, first_takes, first_left, first_none}
use Rattle.marks.proofs.Modules.{modules_below}
use Rattle.information.specs.Inner.{lowest}
use Rattle.decoding.proofs.Readings.{lowest_is}
use Rattle.marks.proofs.Marks.{ranges, version_is}
use Rattle.marks.proofs.Starts.{in_body, no_receipt, in_refusal, side_range, side_back, level_range, mask_range}
use Rattle.receipts.specs.declared.Mark.{Mark}
use Rattle.decoding.specs.Inner.{PassesFirstRefusals, body_or1}
use Rattle.reader.specs.Inner as near
use Rattle.marks.specs.Inner.{are_modules, distance_in}

-- ---- two refusals, and others behind them

two_taken : (x y n : ℕ) (ns : List ℕ) → n ≡ first_refusal (x ∷ y ∷ []) → n ≢ 0 → first_refusal (x ∷ y ∷ ns) ≡ n
two_taken x y n ns e d = first_left (x ∷ y ∷ []) ns (λ z. d (e ∙ z)) ∙ sym e

two_skipped : (x y n : ℕ) (ns : List ℕ) → n ≡ first_refusal (x ∷ y ∷ []) → n ≡ 0 → (x ≡ 0) × (y ≡ 0) × (first_refusal (x ∷ y ∷ ns) ≡ first_refusal ns)
two_skipped x y n ns e z =
    let a = first_none x (y ∷ []) (sym e ∙ z) in
    let b = first_none y [] a.1 in
    (a.0, b.0, first_skips x (y ∷ ns) a.0 ∙ first_skips y ns b.0)

-- the refusals of a square are small numbers
small_unless : (b : Bool) (n : ℕ) → n < 256 → unless b n < 256
small_unless true n h = omega arith
small_unless false n h = h

small_first : (x y : ℕ) → x < 256 → y < 256 → first_refusal (x ∷ y ∷ []) < 256
unfolding first_refusal
small_first x y h k = elim (ℕ_discrete x 0) [
  | no a ↦ omega (arith, first_takes x (y ∷ []) a)
  | yes a ↦ elim (ℕ_discrete y 0) [
    | no b ↦ omega (arith, first_skips x (y ∷ []) a, first_takes y [] b)
    | yes b ↦ omega (arith, first_skips x (y ∷ []) a, first_skips y [] b)
  ]
]

pub early_small : (sq : List ℕ) (side n : ℕ) → n ≡ first_refusal (unless (eqb (length sq) (side * side)) 2 ∷ unless (are_modules sq) 3 ∷ []) → n < 256
early_small sq side n e =
    omega (
      arith,
      small_first (unless (eqb (length sq) (side * side)) 2) (unless (are_modules sq) 3)
          (small_unless (eqb (length sq) (side * side)) 2 (omega arith)) (small_unless (are_modules sq) 3 (omega arith)),
    )

-- what is left when only the blocks can refuse
module _ (m : Mark) (sq p s r : List ℕ) (n : ℕ) (h : length r ≡ 12) (e : n ≡ first_refusal (unless (has_blocks m.version m.level) 1 ∷ [])) where
  abbrev body : Reading
  body = body_of m.version m.level m.mask m.distance sq p s

  by_blocks : (b : Bool) → has_blocks m.version m.level ≡ b → cond b body (refused 1 p s) ≡ with_receipt r p s n body
  unfolding first_refusal
  by_blocks true f = sym (in_body r p s n body h (e ∙ rw f))
  by_blocks false f = in_refusal r p s n 1 body h (e ∙ rw f) (λ z. omega arith)

  left_blocks : body_or1 m sq p s ≡ with_receipt r p s n body
  unfolding body_or1
  left_blocks = by_blocks (has_blocks m.version m.level) refl

-- ---- Read with known version, level, mask

module _ (sq : List ℕ) (v l k : ℕ) (p s r : List ℕ) where
  abbrev known : Reading
  known = read_known_of sq v l k p s r

  abbrev size : ℕ
  size = unless (eqb (length sq) (side_of v * side_of v)) 2

  abbrev bytes : ℕ
  bytes = unless (are_modules sq) 3

  pub known_receipt : length r ≢ 12 → reading_of 2 r p s ≡ known
  unfolding read_known_of
  known_receipt d = no_receipt r p s _ _ d

  pub known_range : length r ≡ 12 → is_info v l k ≡ false → (n : ℕ) (r' : List ℕ) → (n ≡ 1) × (r' ≡ refusal_receipt 1) → reading_of n r' p s ≡ known
  unfolding read_known_of known_refusal refused first_refusal
  known_range h f n r' e = rw (e.0, e.1) (in_refusal r p s (known_refusal v l k sq) 1 _ h (rw f) (λ z. omega arith))

  module _ (h : length r ≡ 12) (f : is_info v l k ≡ true) (side n : ℕ) (es : side ≡ side_of v)
      (en : n ≡ first_refusal (unless (eqb (length sq) (side * side)) 2 ∷ bytes ∷ [])) where
    first : n ≡ first_refusal (size ∷ bytes ∷ [])
    first = en ∙ rw es

    passed : (ns : List ℕ) → first_refusal (unless (is_info v l k) 1 ∷ ns) ≡ first_refusal ns
    passed ns = first_skips (unless (is_info v l k) 1) ns (unless_true (is_info v l k) 1 f)

    pub known_early : n ≢ 0 → (m : ℕ) (r' : List ℕ) → (m ≡ n) × (r' ≡ refusal_receipt n) → reading_of m r' p s ≡ known
    unfolding read_known_of known_refusal refused
    known_early d m r' e = rw (e.0, e.1) (in_refusal r p s _ n _ h (passed _ ∙ two_taken size bytes n _ first d) d)

    module _ (z : n ≡ 0) where
      abbrev mark : Mark
      mark = record { version = v; level = l; mask = k; distance = 0 }

      pub known_fits : PassesFirstRefusals mark sq
      known_fits =
          let R = ranges v l k f in
          let t = two_skipped size bytes n [] first z in
          record {
            low = R.low;
            high = R.high;
            level = R.level;
            mask = R.mask;
            near = omega arith;
            size = eqb-true (length sq) (side_of v * side_of v) (true_unless (eqb (length sq) (side_of v * side_of v)) 1 t.0);
            modules = modules_below sq (true_unless (are_modules sq) 2 t.1);
          }

      pub known_left : body_or1 mark sq p s ≡ known
      unfolding read_known_of known_refusal
      known_left = left_blocks mark sq p s r _ h (passed _ ∙ (two_skipped size bytes n _ first z).2)

-- ---- the nearest level and mask

-- what reading the copies asks
pub in_square : (v side : ℕ) (sq : List ℕ) → 1 ≤ v → v ≤ 84 → side ≡ side_of v → length sq ≡ side_of v * side_of v
    → (23 ≤ side) × (side ≤ 189) × (side * side ≤ length sq)
in_square v side sq low high es h = (omega arith, omega arith, omega (arith, ap (λ (x : ℕ). x * x) es))

module _ (v side a b : ℕ) (sq : List ℕ) (modules : (i : ℕ) → get_or sq i 0 < 3) (es : side ≡ side_of v) (ea : a ≡ copy_of side false (lowest sq))
    (eb : b ≡ copy_of side true (lowest sq)) (r : NearestInfo) where
  nearest_is : (l k d : ℕ) → r ≡ Nearest l k d → nearest_answer r ≡ nearest_of v a b → record { number = 0; level = l; mask = k; distance = d } ≡ nearest_in v sq
  unfolding nearest_in
  nearest_is l k d e f = sym (ap nearest_answer e) ∙ f ∙ rw (ea, eb, es, lowest_is sq modules)

  pub nearest_mark : (l k d : ℕ) → r ≡ Nearest l k d → nearest_answer r ≡ nearest_of v a b
      → near.Nearest v sq (record { version = v; level = l; mask = k; distance = d })
  nearest_mark l k d e f =
      let is = nearest_is l k d e f in
      record {
        version = refl;
        level = ap (λ (x : NearestAnswer). x.level) is;
        mask = ap (λ (x : NearestAnswer). x.mask) is;
        distance = ap (λ (x : NearestAnswer). x.distance) is;
      }

  zero_number : 1 ≤ v → v ≤ 84 → (nearest_of v a b).number ≡ 0
  unfolding nearest_of
  zero_number low high = simp (version_is v low high)

  pub no_version : 1 ≤ v → v ≤ 84 → r ≡ NoVersion → nearest_answer r ≡ nearest_of v a b → ⊥
  no_version low high e f =
      let z : (nearest_answer r).number ≡ 0 = ap (λ (x : NearestAnswer). x.number) f ∙ zero_number low high in
      omega (arith, ap (λ (x : NearestInfo). (nearest_answer x).number) e)

-- ---- Read a square

module _ (sq : List ℕ) (side : ℕ) (p s r : List ℕ) where
  abbrev reading : Reading
  reading = read_of sq side p s r

  abbrev v : ℕ
  v = side_version side

  abbrev sized : ℕ
  sized = unless (eqb (length sq) (side * side)) 2

  abbrev moduled : ℕ
  moduled = unless (are_modules sq) 3

  pub read_receipt : length r ≢ 12 → reading_of 2 r p s ≡ reading
  unfolding read_of
  read_receipt d = no_receipt r p s _ _ d

  module _ (h : length r ≡ 12) (a : FromSide) (ea : side_number a ≡ side_refusal side) (ev : version_of a ≡ side_version side) where
    pub read_side : a ≡ from-side.NoVersion → (n : ℕ) (r' : List ℕ) → (n ≡ 1) × (r' ≡ refusal_receipt 1) → reading_of n r' p s ≡ reading
    unfolding read_of read_refusal refused side_refusal first_refusal
    read_side f n r' e =
        let u : unless (is_side side) 1 ≡ 1 = sym ea ∙ ap side_number f in
        rw (e.0, e.1) (in_refusal r p s (read_refusal side sq) 1 _ h (rw u) (λ z. omega arith))

    module _ (w : Version) (f : a ≡ from-side.Found w) where
      no_first : unless (is_side side) 1 ≡ 0
      unfolding side_refusal
      no_first = sym ea ∙ ap side_number f

      number_is : w.number ≡ v
      number_is = sym (ap version_of f) ∙ ev

      is_side_lem : is_side side ≡ true
      is_side_lem = true_unless (is_side side) 0 no_first

      pub side_small : side ≤ 189
      side_small = omega (arith, side_back side is_side_lem, (side_range side is_side_lem).1)

      module _ (n : ℕ) (en : n ≡ first_refusal (sized ∷ moduled ∷ [])) where
        pub read_early : n ≢ 0 → (m : ℕ) (r' : List ℕ) → (m ≡ n) × (r' ≡ refusal_receipt n) → reading_of m r' p s ≡ reading
        unfolding read_of read_refusal refused
        read_early d m r' e = rw (e.0, e.1) (in_refusal r p s _ n _ h (first_skips (unless (is_side side) 1) _ no_first ∙ two_taken sized moduled n _ en d) d)

        module _ (z : n ≡ 0) where
          length_is : length sq ≡ side_of v * side_of v
          length_is = rw (side_back side is_side_lem) (eqb-true _ _ (true_unless (eqb (length sq) (side * side)) 1 (two_skipped sized moduled n [] en z).0))

          modules_are : (i : ℕ) → get_or sq i 0 < 3
          modules_are = modules_below sq (true_unless (are_modules sq) 2 (two_skipped sized moduled n [] en z).1)

          -- what `mark_in` asks
          pub read_square_fits : (1 ≤ w.number) × (w.number ≤ 84) × (length sq ≡ side_of w.number * side_of w.number) × ((i : ℕ) → get_or sq i 0 < 3)
          read_square_fits =
              let g = side_range side is_side_lem in
              (omega (arith, g.0, number_is), omega (arith, g.1, number_is), rw number_is length_is, modules_are)

          module _ (m : Mark) (N : near.Nearest w.number sq m) where
            nearest : near.Nearest v sq m
            nearest = rw number_is at N

            pub read_far : 10 < m.distance → (n' : ℕ) (r' : List ℕ) → (n' ≡ 4) × (r' ≡ refusal_receipt 4) → reading_of n' r' p s ≡ reading
            unfolding read_of read_refusal refused
            read_far d n' r' e =
                let u : unless (leb (distance_in v sq) 10) 4 ≡ 4 = unless_false (leb (distance_in v sq) 10) 4
                (lt-leb (distance_in v sq) 10 (omega (arith, nearest.distance))) in
                rw (e.0, e.1) (in_refusal r p s _ 4 _ h (first_skips (unless (is_side side) 1) _ no_first ∙ (two_skipped sized moduled n _ en z).2
                ∙ first_takes (unless (leb (distance_in v sq) 10) 4) _ (λ y. omega (arith, u)) ∙ u) (λ y. omega arith))

            module _ (d : m.distance ≤ 10) where
              pub read_fits : PassesFirstRefusals m sq
              read_fits =
                  let g = side_range side is_side_lem in
                  record {
                    low = omega (arith, g.0, nearest.version);
                    high = omega (arith, g.1, nearest.version);
                    level = omega (arith, nearest.level, level_range v sq);
                    mask = omega (arith, nearest.mask, mask_range v sq);
                    near = d;
                    size = rw nearest.version length_is;
                    modules = modules_are;
                  }

              only_blocks : read_refusal side sq ≡ first_refusal (unless (has_blocks m.version m.level) 1 ∷ [])
              unfolding read_refusal
              only_blocks =
                  first_skips (unless (is_side side) 1) _ no_first ∙ (two_skipped sized moduled n _ en z).2
                  ∙ first_skips (unless (leb (distance_in v sq) 10) 4) _
                  (unless_true (leb (distance_in v sq) 10) 4 (le-leb (distance_in v sq) 10 (omega (arith, nearest.distance))))
                  ∙ rw (nearest.version, nearest.level)

              pub read_left : body_or1 m sq p s ≡ reading
              unfolding read_of
              read_left =
                  left_blocks m sq p s r (read_refusal side sq) h only_blocks
                  ∙ rw (nearest.version, nearest.level, nearest.mask, nearest.distance)
