-- The answer for the corrected blocks of a square is what its reading gives. Assumes nothing.
use Rattle.general.proofs.Names.{◌≡◌, sym, ap, ap₂, ◌∙◌, ◌≢◌, cond, List, ◌++◌, ℕ, ◌*◌, ◌≤◌, ◌<◌, arith, ℕ_discrete, eq-eqb, ne_eqb, eqb, length, take}
use Rattle.general.proofs.Names.{take_at, take_all, refl, map, [], ◌∷◌, zero, suc, ◌%◌, ◌/◌, get_or-eq_default}
use Rattle.symbol.specs.Version.{side_of}
use Rattle.symbol.specs.Layout.{layout_of, layout_written}
use Rattle.symbol.proofs.Coordinates.{square_le}
use Rattle.symbol.proofs.Theorems.{layout_length}
use Rattle.block_table.specs.Blocks.{total_of, row_of, Shape, shapes, shapes_of, total_size, cut, joined, data_parts}
use Rattle.symbol.specs.Layout.{data_modules}
use Rattle.block_table.specs.Inner.{Sound}
use Rattle.block_table.proofs.Theorems.{shapes_sound}
use Rattle.codewords.specs.Codewords.{mask_at, mask_bit, data_bits, to_stream}
use Rattle.information.specs.Inner.{lowest}
use Rattle.codewords.specs.Inner.{ModulesAndKinds}
use Rattle.small_marks.proofs.Open.{open_enough}
use Rattle.codewords.proofs.Placement.{data_front, length_data}
use Rattle.blocks.specs.declared.Blocks.{Blocks}
use Rattle.blocks.specs.declared.Blocks.TheVariants.{Corrected, Refused}
use Rattle.blocks.specs.Blockwise.{outcomes, corrected, first_refused, count_of, blocks_of, number_of, corrections_of}
use Rattle.blocks.proofs.Corrects.{count_le, refused_le, corrected_small}
use Rattle.blocks.proofs.Rule.{cut_front}
use Rattle.blocks.proofs.Theorems.{data_left, unset_corrected}
use Rattle.segments.specs.FromData.{DataOutcome, from_data}
use Rattle.marks.specs.Receipt.{receipt_of, refusal_receipt}
use Rattle.marks.specs.Read.{Reading, reading_of, refused, module_bit, unknown_bit, stream_from, flags_from, outcome_reading, body_of, blocks_in, flags_in}
use Rattle.marks.proofs.Modules.{unknown_below, stream_bits, stream_length, flags_length, flags_none}
use Rattle.codewords.proofs.Small.{Below}
use Rattle.marks.proofs.Starts.{layout_front, has_blocks_lem, no_blocks, row_total, row_small}
use Rattle.receipts.specs.declared.Mark.{Mark}
use Rattle.receipts.specs.declared.SquareAnswer.{SquareAnswer}
use Rattle.receipts.specs.Inner.{receipt_in, FitsReceipt, Refuses, FromOutcome}
use Rattle.receipts.proofs.Receipts.{in_accepted, in_refused}
use Rattle.decoding.specs.Inner.{PassesFirstRefusals, InTable, HasLayout, HasStream, FlagsRead, HasFlags, AnswersStream, reading_in, body_or1}
use Rattle.bits.specs.Bits.{first_words}
use Rattle.blocks.specs.Inner.{corrected_data, Numbered}

-- ---- the answer, as a reading

pub refuses_small : (n : ℕ) (t : SquareAnswer) → n < 256 → Refuses n t → FitsReceipt t
refuses_small n t h R = record {
  number = omega (arith, R.number);
  count = omega (arith, R.count);
  payload = omega (arith, R.payload);
  script = omega (arith, R.script);
}

pub refuses_reading : (m : Mark) (n : ℕ) (t : SquareAnswer) (p s : List ℕ) → n ≢ 0 → Refuses n t → reading_in m t p s ≡ refused n p s
unfolding reading_in refused
refuses_reading m n t p s d R = rw (← (in_refused m t (λ e. d (sym R.number ∙ e))), R.number)

receipt_cases : (m : Mark) (t : SquareAnswer) (n : ℕ) → (t.number ≡ 0 → t.count ≡ n)
    → receipt_in m t ≡ cond (eqb t.number 0) (receipt_of m.version m.level m.mask n m.distance t.payload t.script) (refusal_receipt t.number)
receipt_cases m t n h = elim (ℕ_discrete t.number 0) [
  | yes e ↦ rw (← (in_accepted m t e), h e, eq-eqb t.number 0 e)
  | no d ↦ rw (← (in_refused m t d), ne_eqb t.number 0 d)
]

pub outcome_reading_lem : (m : Mark) (n : ℕ) (o : DataOutcome) (t : SquareAnswer) (p s : List ℕ) → FromOutcome n o t p s
    → reading_in m t p s ≡ outcome_reading m.version m.level m.mask m.distance n o
unfolding reading_in outcome_reading
outcome_reading_lem m n o t p s W =
    ap (λ (r : List ℕ). reading_of t.number r p s) (receipt_cases m t n W.count)
    ∙ ap (outcome_reading m.version m.level m.mask m.distance n) (sym W.outcome)

-- the receipt written
pub finished : (m : Mark) (t : SquareAnswer) (r p s : List ℕ) (b : Reading) → reading_in m t p s ≡ b → r ≡ receipt_in m t → reading_of t.number r p s ≡ b
unfolding reading_in
finished m t r p s b e f = rw f e

-- ---- the layout

pub has_layout : (m : Mark) (sq out ks : List ℕ) → PassesFirstRefusals m sq → side_of m.version * side_of m.version ≤ length out
    → ks ≡ layout_written m.version out → HasLayout m.version ks
has_layout m sq out ks F h e =
    let f = layout_front m.version out ks F.low F.high h e in
    record { room = f.0; front = f.1 }

-- ---- the stream of a square

-- the lowest bit of a module is 1 where it is dark
pub lowest_is : (sq : List ℕ) → Below 3 sq → lowest sq ≡ map module_bit sq
lowest_is [] h = refl
lowest_is (m ∷ ms) h = ap₂ ◌∷◌ (one m (h 0)) (lowest_is ms (λ i. h (suc i)))
  where
    one : (x : ℕ) → x < 3 → x % 2 ≡ module_bit x
    one zero h = refl
    one (suc zero) h = refl
    one (suc (suc zero)) h = refl
    one (suc (suc (suc x))) h = absurd (omega arith)

-- half of it is 1 where it is unknown
pub halves_are : (sq : List ℕ) → Below 3 sq → map (λ m. m / 2) sq ≡ map unknown_bit sq
halves_are [] h = refl
halves_are (m ∷ ms) h = ap₂ ◌∷◌ (one m (h 0)) (halves_are ms (λ i. h (suc i)))
  where
    one : (x : ℕ) → x < 3 → x / 2 ≡ unknown_bit x
    one zero h = refl
    one (suc zero) h = refl
    one (suc (suc zero)) h = refl
    one (suc (suc (suc x))) h = absurd (omega arith)

module _ (m : Mark) (sq ks : List ℕ) (F : PassesFirstRefusals m sq) (D : HasLayout m.version ks) where
  abbrev v : ℕ
  v = m.version

  front_is : take (length sq) ks ≡ layout_of v
  front_is = rw F.size D.front

  pub modules_and_kinds : ModulesAndKinds ks sq
  modules_and_kinds = record {
    kinds = omega (arith, D.room, F.size);
    few = omega (arith, F.size, square_le (side_of v) (omega (arith, F.high)));
    modules = F.modules;
  }

  -- something of each module of the square
  module _ (xs : List ℕ) (size : length xs ≡ length sq) where
    bits_are : (f : ℕ → ℕ) → data_bits f 0 ks xs ≡ data_bits f 0 (layout_of v) xs
    bits_are f = data_front f 0 ks xs ∙ rw (size, front_is)

    pub enough_bits : (f : ℕ → ℕ) (total : ℕ) → total ≡ total_of v → 8 * total_of v ≤ data_modules (layout_of v) → 8 * total ≤ length (data_bits f 0 ks xs)
    enough_bits f total e h = omega (arith, length_data f 0 ks xs, ap (λ (n : ℕ). data_modules (take n ks)) size, ap data_modules front_is)

    pub stream_is : (side total : ℕ) (st rest : List ℕ) → xs ≡ map module_bit sq → side ≡ side_of v → total ≡ total_of v
        → st ≡ to_stream (first_words 8 total (data_bits (mask_bit side m.mask) 0 ks xs)) ++ rest → HasStream m sq st
    unfolding stream_from
    stream_is side total st rest d e f g = record { rest = rest; is = g ∙ rw (f, e, bits_are (mask_bit (side_of v) m.mask), d) }

    pub flags_are : (total : ℕ) (fl rest : List ℕ) → xs ≡ map unknown_bit sq → total ≡ total_of v
        → fl ≡ to_stream (first_words 8 total (data_bits (λ i. 0) 0 ks xs)) ++ rest → FlagsRead v sq fl
    unfolding flags_from mask_bit mask_at
    flags_are total fl rest d f g = record {
      rest = rest;
      is = g ∙ rw (f, bits_are (λ i. 0), d, stream_bits v (map unknown_bit sq) (unknown_below sq) 0);
    }

  -- ---- whether there are enough data modules

  module _ (n total : ℕ) (en : n ≡ data_modules (take (length sq) ks)) (et : total ≡ total_of v) (p s : List ℕ) where
    counted : n ≡ data_modules (layout_of v)
    counted = en ∙ ap data_modules front_is

    pub too_few : n < 8 * total → (t : SquareAnswer) → Refuses 1 t → (reading_in m t p s ≡ body_or1 m sq p s) × FitsReceipt t
    unfolding body_or1
    too_few h t R =
        (refuses_reading m 1 t p s (λ z. omega arith) R ∙ sym (simp (no_blocks v m.level (omega (arith, counted)))), refuses_small 1 t (omega arith) R)

    pub enough : 8 * total ≤ n → 8 * total_of v ≤ data_modules (layout_of v)
    enough h = omega (arith, counted)

    pub with_blocks : 8 * total ≤ n → (r : Reading) → r ≡ body_of v m.level m.mask m.distance sq p s → r ≡ body_or1 m sq p s
    unfolding body_or1
    with_blocks h r e = e ∙ sym (simp (has_blocks_lem v m.level F.low F.high F.level (enough h)))

-- ---- a version with no alignment patterns: its layout need not be drawn

pub open_layout : (v : ℕ) → HasLayout v (layout_of v)
open_layout v = record { room = omega (arith, layout_length v); front = take_all (side_of v * side_of v) (layout_of v) (omega (arith, layout_length v)) }

pub open_blocks : (m : Mark) (sq p s : List ℕ) (r : Reading) → PassesFirstRefusals m sq → m.version < 4
    → r ≡ body_of m.version m.level m.mask m.distance sq p s → r ≡ body_or1 m sq p s
unfolding body_or1
open_blocks m sq p s r F h e = e ∙ sym (simp (has_blocks_lem m.version m.level F.low F.high F.level (open_enough m.version F.low (omega arith))))

-- ---- the blocks of a stream, corrected

pub in_table : (m : Mark) (sq : List ℕ) → PassesFirstRefusals m sq → InTable m
in_table m sq F = record { low = F.low; high = F.high; level = F.level }

module _ (m : Mark) (R : InTable m) (row : List ℕ) (e : row ≡ row_of m.version m.level) where
  abbrev bs : List Shape
  bs = shapes row

  length_is : total_size bs ≡ total_of m.version
  length_is = row_total m.version m.level R.low R.high R.level row e

  sound : Sound bs
  unfolding shapes_of
  sound = rw e (shapes_sound m.version m.level R.low R.high R.level)

  pub count_small : (r : Blocks) (n : ℕ) (fl st : List ℕ) → r ≡ Corrected n → (number_of r ≡ 0 → corrections_of r ≡ count_of (corrected bs fl st)) → n < 65536
  unfolding number_of corrections_of
  count_small r n fl st a c =
      let k : n ≡ count_of (corrected bs fl st) = sym (ap corrections_of a) ∙ c (ap number_of a) in
      omega (arith, count_le bs fl st, row_small m.version m.level R.low R.high R.level row e)

  module _ (st fl p s sq : List ℕ) (S : HasStream m sq st) (H : HasFlags m.version sq fl) where
    abbrev stream : List ℕ
    stream = stream_from m.version m.mask sq

    abbrev flags : List ℕ
    flags = flags_from m.version sq

    size : length stream ≡ total_size bs
    size = stream_length m.version m.mask sq ∙ sym length_is

    -- the flags of the square, or none, come to the same
    same : (s : List ℕ) → corrected bs fl s ≡ corrected bs flags s
    same s = elim (ℕ_discrete (length fl) 0) [
      | yes z ↦ unset_corrected bs fl flags s (λ i. get_or-eq_default fl 0 {n = i} (omega arith)) (H.none z)
      | no z ↦
          let x = H.some (omega arith) in
          ap (λ (f : List ℕ). corrected bs f s) x.is
          ∙ ap (λ (fs : List (List ℕ)). outcomes bs fs (cut bs s)) (cut_front bs flags x.rest (omega (arith, flags_length m.version sq, length_is)))
    ]

    taken : corrected bs fl (take (total_size bs) st) ≡ corrected bs flags stream
    taken = same _ ∙ ap (corrected bs flags) (rw S.is (take_at stream S.rest (total_size bs) size))

    -- the reading by a row's blocks
    abbrev reading : List Shape → Reading
    reading cs =
        cond (eqb (first_refused (corrected cs flags stream)) 0)
        (outcome_reading m.version m.level m.mask m.distance (count_of (corrected cs flags stream)) (from_data (corrected_data cs flags stream) p s))
        (refused (first_refused (corrected cs flags stream)) p s)

    reading_is : reading bs ≡ body_of m.version m.level m.mask m.distance sq p s
    unfolding body_of blocks_in flags_in shapes_of
    reading_is = ap (λ (r : List ℕ). reading (shapes r)) e

    refused_is : (r : Blocks) (n : ℕ) (t : SquareAnswer) → r ≡ Refused n → 0 < n → number_of r ≡ first_refused (corrected bs fl (take (total_size bs) st))
        → Refuses n t → reading_in m t p s ≡ body_of m.version m.level m.mask m.distance sq p s
    unfolding number_of
    refused_is r n t a d b Rn =
        let number : first_refused (corrected bs flags stream) ≡ n = ap first_refused (sym taken) ∙ sym b ∙ ap number_of a in
        let is : refused n p s ≡ reading bs = simp (number, ne_eqb n 0 (λ z. omega arith)) in
        refuses_reading m n t p s (λ z. omega arith) Rn ∙ is ∙ reading_is

    corrected_is : (r : Blocks) (n : ℕ) (st' rest' : List ℕ) (t : SquareAnswer) (p' s' : List ℕ) → r ≡ Corrected n
        → number_of r ≡ first_refused (corrected bs fl (take (total_size bs) st))
        → (number_of r ≡ 0 → (corrections_of r ≡ count_of (corrected bs fl (take (total_size bs) st)))
        × (st' ≡ joined (blocks_of (corrected bs fl (take (total_size bs) st))) ++ rest'))
        → FromOutcome n (from_data (data_parts bs (cut bs st')) p s) t p' s'
        → reading_in m t p' s' ≡ body_of m.version m.level m.mask m.distance sq p s
    unfolding number_of corrections_of
    corrected_is r n st' rest' t p' s' a b c W =
        let zero : first_refused (corrected bs flags stream) ≡ 0 = ap first_refused (sym taken) ∙ sym b ∙ ap number_of a in
        let k = c (ap number_of a) in
        let count : n ≡ count_of (corrected bs flags stream) = sym (ap corrections_of a) ∙ k.0 ∙ ap count_of taken in
        let parts : data_parts bs (cut bs st') ≡ corrected_data bs flags stream = rw (k.1, taken) (data_left bs sound flags stream size rest') in
        let o = outcome_reading m.version m.level m.mask m.distance in
        let is : o n (from_data (data_parts bs (cut bs st')) p s) ≡ reading bs = rw (zero, count, parts) in
        outcome_reading_lem m n _ t p' s' W ∙ is ∙ reading_is

  pub blocks_refused : (st fl p s : List ℕ) (r : Blocks) (n : ℕ) (t : SquareAnswer) → r ≡ Refused n → Numbered r
      → number_of r ≡ first_refused (corrected bs fl (take (total_size bs) st)) → Refuses n t → AnswersStream m st fl p s t p s
  unfolding number_of
  blocks_refused st fl p s r n t a N b Rn =
      let os = corrected bs fl (take (total_size bs) st) in
      record {
        reading = λ sq S H. refused_is st fl p s sq S H r n t a (N.pos n a) b Rn;
        small = refuses_small n t (omega (arith, b, ap number_of a, refused_le os (corrected_small bs fl (take (total_size bs) st)))) Rn;
      }

  pub blocks_corrected : (st fl p s : List ℕ) (r : Blocks) (n : ℕ) (st' rest' : List ℕ) (t : SquareAnswer) (p' s' : List ℕ) → r ≡ Corrected n
      → number_of r ≡ first_refused (corrected bs fl (take (total_size bs) st))
      → (number_of r ≡ 0 → (corrections_of r ≡ count_of (corrected bs fl (take (total_size bs) st)))
      × (st' ≡ joined (blocks_of (corrected bs fl (take (total_size bs) st))) ++ rest'))
      → FromOutcome n (from_data (data_parts bs (cut bs st')) p s) t p' s'
      → AnswersStream m st fl p s t p' s'
  blocks_corrected st fl p s r n st' rest' t p' s' a b c W =
      record { reading = λ sq S H. corrected_is st fl p s sq S H r n st' rest' t p' s' a b c W; small = W.small }

-- ---- flags, and none

pub flags_some : {v : ℕ} {sq fl : List ℕ} → FlagsRead v sq fl → 0 < length fl → HasFlags v sq fl
flags_some R h = record { some = λ _. R; none = λ e. absurd (omega arith) }

-- no flags, where no module is unknown
pub flags_absent : {v : ℕ} {sq fl : List ℕ} → Below 2 sq → length fl ≡ 0 → HasFlags v sq fl
flags_absent {v} {sq} b e = record { some = λ h. absurd (omega arith); none = λ _. flags_none v sq b }
