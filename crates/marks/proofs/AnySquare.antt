-- What a reading answers for any square that passes the first refusals. Assumes nothing.
use Rattle.general.proofs.Names.{◌≡◌, refl, sym, ap, ap₂, ◌∙◌, subst, ◌⊎◌, inl, inr, ◌≢◌, Bool, true, false, cond, Option, none, some, List, ℕ, ◌≤◌}
use Rattle.general.proofs.Names.{◌<◌, arith, ℕ_discrete, dec_lt, eq-eqb, ne_eqb, lt-ltb, le-ltb, eqb, ltb, length, T}
use Rattle.symbol.specs.Version.{is_side, side_version}
use Rattle.information.specs.Information.{is_info}
use Rattle.reed_solomon.specs.Block.{distance}
use Rattle.reed_solomon.specs.Erased.{erasures}
use Rattle.corrector.specs.Correct.{BlockOutcome}
use Rattle.field.proofs.Instances.{primitive_163}
use Rattle.reed_solomon.proofs.Erased.{none_erased}
use Rattle.reed_solomon.proofs.Theorems.{no_block_admits_two, found_is_admitted, admitted_is_found}
use Rattle.block_table.specs.Blocks.{Shape, shapes_of, total_size, cut, data_parts}
use Rattle.block_table.specs.Inner.{Sound}
use Rattle.block_table.proofs.Cuts.{Shaped, cut_shaped}
use Rattle.block_table.proofs.Theorems.{shapes_total, shapes_sound}
use Rattle.blocks.specs.Blockwise.{first_refused, count_of, corrected, block_at, parity_at}
use Rattle.blocks.proofs.Corrects.{cut_number}
use Rattle.blocks.proofs.RefusedStreams.{found, FirstLost, shaped_at, at_found}
use Rattle.blocks.proofs.Theorems as blocks
use Rattle.segments.specs.Segments.{segments_of}
use Rattle.segments.specs.Script.{Segment, payload_of, script_of}
use Rattle.segments.specs.FromData.{DataOutcome as Given, refused_data, in_buffers, is_broken, from_data}
use Rattle.marks.specs.Read.{Reading, refused, unless, stream_from, flags_from, blocks_in, flags_in, read_refusal, known_refusal}
use Rattle.marks.specs.Read.{outcome_reading, body_of, with_receipt, read_of, read_known_of}
use Rattle.marks.specs.Promise.{parity_in, block_in, flags_at, erased_at, Admits, EachAdmitted, FirstRefused, InReach, EachInReach, set_to, corrections_at}
use Rattle.codewords.proofs.Small.{Below}
use Rattle.marks.proofs.Modules.{stream_length, flags_length}
use Rattle.marks.proofs.Refusals.{true_unless, first_none}
use Rattle.marks.proofs.Marks.{Ranges, ranges}
use Rattle.marks.proofs.Starts.{in_body, no_receipt, in_refusal, side_range}
use Rattle.marks.proofs.ReadBack.{nothing_erased}
use Rattle.blocks.specs.Inner.{corrected_data}
use Rattle.marks.specs.Inner.{level_in, mask_in, distance_in}
use Rattle.general.proofs.Choices.{never}

-- ---- Segments from data answers neither 6 nor 15

not_number : (n : ℕ) (b : Bool) (x y : Given) → x.number ≢ n → y.number ≢ n → (cond b x y).number ≢ n
not_number n true x y p q = p
not_number n false x y p q = q

module _ (n : ℕ) (above : (n ≡ 6) ⊎ (n ≡ 15)) where
  apart : (m : ℕ) → m ≢ 6 → m ≢ 15 → m ≢ n
  apart m a b e = elim above [ inl z ↦ a (e ∙ z) | inr z ↦ b (e ∙ z) ]

  in_buffers_not : (gs : List Segment) (p s : List ℕ) → (in_buffers gs p s).number ≢ n
  in_buffers_not gs p s =
      not_number n (eqb (length (payload_of gs)) 0) (refused_data 8 p s) _ (apart 8 (λ e. omega arith) (λ e. omega arith))
      (not_number n (ltb (length p) (length (payload_of gs))) (refused_data 9 p s) _ (apart 9 (λ e. omega arith) (λ e. omega arith))
      (not_number n (ltb (length s) (length (script_of gs))) (refused_data 10 p s) _ (apart 10 (λ e. omega arith) (λ e. omega arith))
      (apart 0 (λ e. omega arith) (λ e. omega arith))))

  data_not : (ds p s : List ℕ) → (from_data ds p s).number ≢ n
  data_not ds p s =
      not_number n (ltb 3886 (length ds)) (refused_data 2 p s) _ (apart 2 (λ e. omega arith) (λ e. omega arith))
      (not_number n (is_broken (segments_of ds).end) (refused_data 7 p s) _ (apart 7 (λ e. omega arith) (λ e. omega arith))
      (in_buffers_not (segments_of ds).segments p s))

-- ---- a search does not find nothing and something

not_both : (u : List ℕ) {o : Option (List ℕ)} → o ≡ none → o ≡ some u → ⊥
not_both u e f = never cc

-- ---- the body of a reading

module _ (v l k d : ℕ) (sq p s : List ℕ) (low : 1 ≤ v) (high : v ≤ 84) (level : l ≤ 3) where
  abbrev bs : List Shape
  bs = shapes_of v l

  abbrev stream : List ℕ
  stream = stream_from v k sq

  abbrev flags : List ℕ
  flags = flags_from v sq

  abbrev fs : List (List ℕ)
  fs = cut bs flags

  abbrev ws : List (List ℕ)
  ws = cut bs stream

  sound : Sound (shapes_of v l)
  sound = shapes_sound v l low high level

  size : length (stream_from v k sq) ≡ total_size (shapes_of v l)
  size = stream_length v k sq ∙ sym (shapes_total v l low high level)

  body_outcome : first_refused (corrected bs flags stream) ≡ 0
      → body_of v l k d sq p s ≡ outcome_reading v l k d (count_of (corrected bs flags stream)) (from_data (corrected_data bs flags stream) p s)
  unfolding body_of blocks_in flags_in
  body_outcome e = simp (eq-eqb (first_refused (corrected bs flags stream)) 0 e)

  body_refused : (n : ℕ) → first_refused (corrected bs flags stream) ≡ n → n ≢ 0 → body_of v l k d sq p s ≡ refused n p s
  unfolding body_of blocks_in flags_in
  body_refused n e h = simp (e, ne_eqb n 0 h)

  shaped : Shaped bs ws
  shaped = cut_shaped bs stream (omega (arith, size))

  sizes : (j : ℕ) → j < length bs → (length (block_at ws j) ≤ 255) × (length (block_at fs j) ≡ length (block_at ws j))
  sizes j h = shaped_at bs ws fs sound shaped (cut_shaped bs flags (omega (arith, flags_length v sq, shapes_total v l low high level))) j h

  -- ---- a codeword that is admitted is found, and what is found is admitted

  found_one : (j : ℕ) → j < length bs → (w : List ℕ) → Admits v l k sq j w → found bs fs ws j ≡ some w
  unfolding blocks_in flags_in
  found_one j h w = let z = sizes j h in admitted_is_found 0x163 primitive_163 1 (parity_at bs j) (block_at fs j) (block_at ws j) w z.0 z.1

  admits_one : (j : ℕ) (w : List ℕ) → found bs fs ws j ≡ some w → Admits v l k sq j w
  unfolding blocks_in flags_in
  admits_one j w = found_is_admitted 0x163 primitive_163 1 (parity_at bs j) (block_at fs j) (block_at ws j) w

  found_none : (j : ℕ) → ((w : List ℕ) → Admits v l k sq j w → ⊥) → found bs fs ws j ≡ none
  found_none j f = go (found bs fs ws j) refl
    where
      go : (o : Option (List ℕ)) → found bs fs ws j ≡ o → o ≡ none
      go none e = refl
      go (some w) e = absurd (f w (admits_one j w e))

  is_first : (j : ℕ) → FirstRefused v l k sq j → FirstLost bs fs ws j
  is_first j F = record {
    inside = F.inside;
    lost = found_none j F.none;
    before = λ i h. (let x = F.before i h in (x.0, found_one i (omega (arith, F.inside)) x.0 x.1));
  }

  first_is : (j : ℕ) → FirstLost bs fs ws j → FirstRefused v l k sq j
  first_is j F = record {
    inside = F.inside;
    none = λ w A. not_both w F.lost (found_one j F.inside w A);
    before = λ i h. (let x = F.before i h in (x.0, admits_one i x.0 x.1));
  }

  -- ---- 15 and 6: by the first block that is not accepted, and only by that

  lost_number : (j : ℕ) → FirstLost bs fs ws j → first_refused (corrected bs flags stream) ≡ cond (ltb (parity_at bs j) (erasures (block_at fs j))) 15 6
  lost_number j F = blocks.lost_then_refused bs sound flags stream size j F

  pub first_fifteen : (j : ℕ) → FirstRefused v l k sq j → parity_in v l j < erased_at v l sq j → body_of v l k d sq p s ≡ refused 15 p s
  unfolding flags_in
  first_fifteen j F h =
      body_refused 15 (lost_number j (is_first j F) ∙ rw (lt-ltb (parity_at bs j) (erasures (block_at fs j)) h)) (λ e. omega arith)

  pub first_six : (j : ℕ) → FirstRefused v l k sq j → erased_at v l sq j ≤ parity_in v l j → body_of v l k d sq p s ≡ refused 6 p s
  unfolding flags_in
  first_six j F h =
      body_refused 6 (lost_number j (is_first j F) ∙ rw (le-ltb (parity_at bs j) (erasures (block_at fs j)) h)) (λ e. omega arith)

  -- one block is the first that is not accepted, or each is
  pub first_or_each : ((j : ℕ) × FirstRefused v l k sq j) ⊎ ((us : List (List ℕ)) × EachAdmitted v l k sq us)
  first_or_each = elim (blocks.lost_or_each bs sound flags stream size) [
    | inl x ↦ inl (x.0, first_is x.0 x.1)
    | inr x ↦ inr (x.0, record { number = x.1.number; each = λ j h. admits_one j (block_at x.0 j) (x.1.are j h) })
  ]

  -- where each has a codeword, each is set to it
  pub each_body : (us : List (List ℕ)) → EachAdmitted v l k sq us → body_of v l k d sq p s ≡ set_to v l k d sq us p s
  unfolding blocks_in
  each_body us E =
      let q = blocks.each_then_set bs sound flags stream size us (record { number = E.number; are = λ j h. found_one j h (block_at us j) (E.each j h) }) in
      body_outcome q.0 ∙ ap₂ (λ (c : ℕ) (us : List (List ℕ)). outcome_reading v l k d c (from_data (data_parts bs us) p s)) q.2 q.1

  each_not : (n : ℕ) → (n ≡ 6) ⊎ (n ≡ 15) → (us : List (List ℕ)) → EachAdmitted v l k sq us → (body_of v l k d sq p s).number ≢ n
  unfolding outcome_reading
  each_not n above us E e = data_not n above (data_parts bs us) p s (sym (ap (λ (r : Reading). r.number) (each_body us E)) ∙ e)

  pub fifteen_first : (body_of v l k d sq p s).number ≡ 15 → (j : ℕ) × FirstRefused v l k sq j × (parity_in v l j < erased_at v l sq j)
  unfolding refused
  fifteen_first e = elim first_or_each [
    | inr x ↦ absurd (each_not 15 (inr refl) x.0 x.1 e)
    | inl x ↦ elim (dec_lt (parity_in v l x.0) (erased_at v l sq x.0)) [
      | yes h ↦ (x.0, x.1, h)
      | no h ↦ absurd (let z : ◌≡◌ {A = ℕ} 6 15 = sym (ap (λ (r : Reading). r.number) (first_six x.0 x.1 (omega arith))) ∙ e in omega arith)
    ]
  ]

  pub six_first : (body_of v l k d sq p s).number ≡ 6 → (j : ℕ) × FirstRefused v l k sq j × (erased_at v l sq j ≤ parity_in v l j)
  unfolding refused
  six_first e = elim first_or_each [
    | inr x ↦ absurd (each_not 6 (inl refl) x.0 x.1 e)
    | inl x ↦ elim (dec_lt (parity_in v l x.0) (erased_at v l sq x.0)) [
      | no h ↦ (x.0, x.1, omega arith)
      | yes h ↦ absurd (let z : ◌≡◌ {A = ℕ} 15 6 = sym (ap (λ (r : Reading). r.number) (first_fifteen x.0 x.1 h)) ∙ e in omega arith)
    ]
  ]

  pub other_each : (body_of v l k d sq p s).number ≢ 6 → (body_of v l k d sq p s).number ≢ 15 → (us : List (List ℕ)) × EachAdmitted v l k sq us
  unfolding refused
  other_each a b = elim first_or_each [
    | inr x ↦ x
    | inl x ↦ elim (dec_lt (parity_in v l x.0) (erased_at v l sq x.0)) [
      | no h ↦ absurd (a (ap (λ (r : Reading). r.number) (first_six x.0 x.1 (omega arith))))
      | yes h ↦ absurd (b (ap (λ (r : Reading). r.number) (first_fifteen x.0 x.1 h)))
    ]
  ]

  -- the corrections of a block
  pub corrections : (j : ℕ) → j < length bs → (w : List ℕ) → Admits v l k sq j w
      → corrections_at v l k sq j ≡ distance (block_at (blocks_in v l k sq) j) w
  unfolding blocks_in flags_in
  corrections j h w A = ap (λ (o : BlockOutcome). o.count) (at_found bs fs ws sound (cut_number bs flags) shaped j h w (found_one j h w A))

  -- no block has two
  pub no_two : (j : ℕ) → j < length bs → (u w : List ℕ) → Admits v l k sq j u → Admits v l k sq j w → u ≡ w
  unfolding blocks_in flags_in
  no_two j h u w = let z = sizes j h in no_block_admits_two 0x163 primitive_163 1 (parity_at bs j) (block_at fs j) (block_at ws j) u w z.0 z.1

  -- ---- a square with no unknown modules

  module _ (known : Below 2 sq) where
    pub in_admits : (j : ℕ) (w : List ℕ) → Admits v l k sq j w ≡ InReach v l k sq j w
    in_admits j w = ap T (none_erased 0x163 1 (parity_in v l j) (flags_at v l sq j) (block_in v l k sq j) (nothing_erased v l sq known j) w)

    pub each_in : (us : List (List ℕ)) → EachInReach v l k sq us → EachAdmitted v l k sq us
    each_in us E = record { number = E.number; each = λ j h. subst (λ (X : Type 0). X) (sym (in_admits j (block_at us j))) (E.each j h) }

    pub each_out : (us : List (List ℕ)) → EachAdmitted v l k sq us → EachInReach v l k sq us
    each_out us E = record { number = E.number; each = λ j h. subst (λ (X : Type 0). X) (in_admits j (block_at us j)) (E.each j h) }

    -- 6 where some block has no codeword in reach, and only there
    pub lost_six : (j : ℕ) → j < length bs → ((w : List ℕ) → InReach v l k sq j w → ⊥) → body_of v l k d sq p s ≡ refused 6 p s
    lost_six j h f = elim first_or_each [
      | inl x ↦ first_six x.0 x.1 (omega (arith, nothing_erased v l sq known x.0))
      | inr x ↦ absurd (f (block_at x.0 j) ((each_out x.0 x.1).each j h))
    ]

    pub six_lost : (body_of v l k d sq p s).number ≡ 6 → (j : ℕ) × (j < length bs) × ((w : List ℕ) → InReach v l k sq j w → ⊥)
    six_lost e = let x = six_first e in (x.0, x.1.inside, λ w I. x.1.none w (subst (λ (X : Type 0). X) (sym (in_admits x.0 w)) I))

    -- 15 never
    pub never_fifteen : (body_of v l k d sq p s).number ≢ 15
    never_fifteen e = let x = fifteen_first e in omega (arith, x.2, nothing_erased v l sq known x.0)

-- ---- a square that passes the first refusals of Read a square

module _ (sq : List ℕ) (side : ℕ) (p s r : List ℕ) (receipt : length r ≡ 12) (passes : read_refusal side sq ≡ 0) where
  pub ranged : (1 ≤ side_version side) × (side_version side ≤ 84)
  unfolding read_refusal
  ranged = side_range side (true_unless (is_side side) 0 (first_none (unless (is_side side) 1) _ passes).0)

  pub read_body : read_of sq side p s r
      ≡ body_of (side_version side) (level_in (side_version side) sq) (mask_in (side_version side) sq) (distance_in (side_version side) sq) sq p s
  unfolding read_of
  read_body = in_body r p s (read_refusal side sq) _ receipt passes

-- ---- and of Read with known version, level, mask

module _ (sq : List ℕ) (v l k : ℕ) (p s r : List ℕ) (receipt : length r ≡ 12) (passes : known_refusal v l k sq ≡ 0) where
  pub in_range : Ranges v l k
  unfolding known_refusal
  in_range = ranges v l k (true_unless (is_info v l k) 0 (first_none (unless (is_info v l k) 1) _ passes).0)

  pub known_body : read_known_of sq v l k p s r ≡ body_of v l k 0 sq p s
  unfolding read_known_of
  known_body = in_body r p s (known_refusal v l k sq) (body_of v l k 0 sq p s) receipt passes

-- ---- an accepted reading has a receipt of 12 bytes and no first refusal

pub begins : (r p s : List ℕ) (n : ℕ) (body : Reading) → (with_receipt r p s n body).number ≡ 0 → (length r ≡ 12) × (n ≡ 0)
unfolding refused
begins r p s n body e = elim (ℕ_discrete (length r) 12) [
  | no d ↦ absurd (let z : ◌≡◌ {A = ℕ} 2 0 = ap (λ (x : Reading). x.number) (no_receipt r p s n body d) ∙ e in omega arith)
  | yes a ↦ elim (ℕ_discrete n 0) [
    | no d ↦ absurd (d (ap (λ (x : Reading). x.number) (in_refusal r p s n n body a refl d) ∙ e))
    | yes z ↦ (a, z)
  ]
]
