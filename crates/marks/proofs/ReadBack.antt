-- From a mark to its reading: a written mark within reach is read as it was written. Assumes nothing.
use Rattle.general.proofs.Names.{◌≡◌, sym, ap, ◌∙◌, List, ◌++◌, ℕ, ◌*◌, ◌/◌, ◌≤◌, ◌<◌, arith, eq-eqb, leb-true}
use Rattle.general.proofs.Names.{le-leb, leb, length, drop, map}
use Rattle.symbol.specs.Version.{side_of, side_version}
use Rattle.symbol.specs.Layout.{layout_of}
use Rattle.information.specs.Information.{info_bits, info_flips, NearestAnswer}
use Rattle.block_table.specs.Blocks.{total_of, shapes_of, has_blocks, row_holds, total_size, cut, Shape}
use Rattle.symbol.specs.Layout.{data_modules}
use Rattle.block_table.specs.Inner.{Sound}
use Rattle.block_table.proofs.Rows.{total_small}
use Rattle.block_table.proofs.Theorems.{shapes_total, shapes_sound}
use Rattle.codewords.proofs.Back.{written_stream}
use Rattle.reed_solomon.specs.Erased.{Meets}
use Rattle.blocks.specs.Blockwise.{first_refused, count_of, corrected, stream_of, differences, block_at, parity_at}
use Rattle.blocks.proofs.Theorems.{written_blocks, in_reach, part_none}
use Rattle.segments.specs.FromData.{from_data}
use Rattle.script.specs.Check.{commands_of}
use Rattle.script.proofs.Theorems.{encoded_data, round_trip}
use Rattle.marks.specs.Receipt.{receipt_of}
use Rattle.marks.specs.Read.{Reading, first_refusal, module_bit, stream_from, flags_from, blocks_in, flags_in}
use Rattle.marks.specs.Read.{read_refusal, known_refusal, outcome_reading, body_of, read_of, read_known_of}
use Rattle.marks.specs.Write.{room_of, mark_of, write_of}
use Rattle.marks.specs.Promise.{block_count, parity_in, erased_at, info_changed, changed_at, changed, MeetsAt}
use Rattle.marks.proofs.Refusals.{both_true}
use Rattle.marks.proofs.Modules.{below_modules, bits_are, lit_below, lit_length, nearest_lit, stream_bits, stream_length, flags_length, flags_none}
use Rattle.codewords.proofs.Small.{Below}
use Rattle.marks.proofs.Data.{data_below}
use Rattle.marks.proofs.Starts.{in_body, data_le}
use Rattle.marks.proofs.Marks.{Ranges, Written, written, mark_length, mark_below, info_is, side_is, side_version_lem, level_is, mask_is, distance_le}
use Rattle.script.specs.Inner.{script_data}
use Rattle.marks.specs.Inner.{level_in, mask_in, distance_in}

-- what is read where a script and its payload were written
abbrev pub written_reading : ℕ → ℕ → ℕ → ℕ → ℕ → List ℕ → List ℕ → List ℕ → List ℕ → Reading
written_reading v l k count d script payload p s = record {
  number = 0;
  receipt = receipt_of v l k count d (length payload) (length script);
  payload = payload ++ drop (length payload) p;
  script = script ++ drop (length script) s;
}

module _ (v l k : ℕ) (script payload before : List ℕ) (bytes : Below 256 script) (W : Written v l k script payload before) where
  abbrev R : Ranges v l k
  R = W.ranged

  abbrev bs : List Shape
  bs = shapes_of v l

  abbrev mark : List ℕ
  mark = mark_of v l k script payload

  abbrev ds : List ℕ
  ds = script_data (room_of v l) (commands_of script payload)

  sound : Sound (shapes_of v l)
  sound = shapes_sound v l R.low R.high R.level

  sized : total_size (shapes_of v l) ≡ total_of v
  sized = shapes_total v l R.low R.high R.level

  room_small : room_of v l ≤ 3886
  room_small = omega (arith, data_le bs, sized, total_small v R.low R.high)

  ds_bytes : Below 256 ds
  ds_bytes = rw (encoded_data script payload (room_of v l) bytes W.fits).0 (data_below (room_of v l) W.fits.segments)

  ds_length : length ds ≡ room_of v l
  ds_length = let D = encoded_data script payload (room_of v l) bytes W.fits in ap length D.0 ∙ D.1

  -- the script's stream has the version's codewords ..
  pub stream_total : length (stream_of bs ds) ≡ total_of v
  stream_total = (written_blocks bs sound ds ds_bytes ds_length).0 ∙ sized

  -- .. and is that of the mark
  pub mark_stream : stream_from v k mark ≡ stream_of bs ds
  unfolding mark_of has_blocks
  mark_stream =
      let B = written_blocks bs sound ds ds_bytes ds_length in
      let h : 8 * total_of v ≤ data_modules (layout_of v) =
      leb-true (8 * total_of v) (data_modules (layout_of v)) (both_true (row_holds bs (total_of v)) (leb (8 * total_of v) (data_modules (layout_of v))) W.blocked).1 in
      stream_bits v mark (mark_below v l k script payload R) k
      ∙ (rw stream_total at (written_stream v k (info_bits v l k) (stream_of bs ds) R.low B.1 (omega (arith, stream_total))))

  module _ (square : List ℕ) (size : length square ≡ side_of v * side_of v) (modules : Below 3 square)
      (reach : (j : ℕ) → j < length bs → Meets (parity_at bs j) (block_at (flags_in v l square) j) (block_at (blocks_in v l k square) j) (block_at (blocks_in v l k mark) j))
      (p s : List ℕ) (room-p : length payload ≤ length p) (room-s : length script ≤ length s) where
    abbrev count : ℕ
    count = differences (blocks_in v l k square) (blocks_in v l k mark)

    abbrev stream : List ℕ
    stream = stream_from v k square

    abbrev flags : List ℕ
    flags = flags_from v square

    body_back : (d : ℕ) → body_of v l k d square p s ≡ written_reading v l k count d script payload p s
    unfolding body_of outcome_reading blocks_in flags_in
    body_back d =
        let near : (j : ℕ) → j < length bs → Meets (parity_at bs j) (block_at (cut bs flags) j) (block_at (cut bs stream) j) (block_at (cut bs (stream_of bs ds)) j) =
        λ j h. rw mark_stream at (reach j h) in
        let I = in_reach bs sound ds ds_bytes ds_length flags stream (flags_length v square ∙ sym sized) (stream_length v k square ∙ sym sized) near in
        let c : count_of (corrected bs flags stream) ≡ count = rw mark_stream I.3 in
        simp (eq-eqb (first_refused (corrected bs flags stream)) 0 I.0, c)
        (ap (outcome_reading v l k d count)
        (ap (λ (x : List ℕ). from_data x p s) I.2 ∙ round_trip script payload (room_of v l) p s bytes W.fits room_small room-p room-s))

    module _ (r : List ℕ) (receipt : length r ≡ 12) where
      known_zero : known_refusal v l k square ≡ 0
      unfolding known_refusal first_refusal
      known_zero = simp (info_is v l k R, eq-eqb (length square) (side_of v * side_of v) size, below_modules square modules, W.blocked)

      -- with the three known, whatever the information modules are
      pub known_back : read_known_of square v l k p s r ≡ written_reading v l k count 0 script payload p s
      unfolding read_known_of
      known_back = in_body r p s (known_refusal v l k square) (body_of v l k 0 square p s) receipt known_zero ∙ body_back 0

      module _ (few : info_changed v mark square ≤ 8) where
        -- the square with its unknown modules light
        abbrev lit : List ℕ
        lit = map module_bit square

        lit_size : length lit ≡ side_of v * side_of v
        lit_size = lit_length square ∙ size

        abbrev v' : ℕ
        v' = side_version (side_of v)

        same : side_version (side_of v) ≡ v
        same = side_version_lem v R.low R.high

        lv : level_in v square ≡ l
        lv = ap (λ (x : NearestAnswer). x.level) (nearest_lit v square) ∙ level_is v l k script payload R lit lit_size (lit_below square) few

        mk : mask_in v square ≡ k
        mk = ap (λ (x : NearestAnswer). x.mask) (nearest_lit v square) ∙ mask_is v l k script payload R lit lit_size (lit_below square) few

        read_zero : read_refusal (side_of v) square ≡ 0
        unfolding read_refusal first_refusal
        read_zero =
            let near = le-leb (distance_in v square) 10 (omega (
              arith,
              ap (λ (x : NearestAnswer). x.distance) (nearest_lit v square),
              distance_le v l k script payload R lit lit_size (lit_below square) few,
            )) in
            simp (side_is v R.low R.high, eq-eqb (length square) (side_of v * side_of v) size, below_modules square modules, same, near, lv, W.blocked)

        -- with at most 8 information modules flipped
        pub read_back : read_of square (side_of v) p s r ≡ written_reading v l k count (distance_in v square) script payload p s
        unfolding read_of
        read_back =
            in_body r p s (read_refusal (side_of v) square) (body_of v' (level_in v' square) (mask_in v' square) (distance_in v' square) square p s) receipt read_zero
            ∙ simp (same, lv, mk) (body_back (distance_in v square))

-- ---- the same of what the writer left in the square

module _ (v l k : ℕ) (script payload before mark : List ℕ) (bytes : Below 256 script)
    (made : write_of v l k script payload before ≡ record { number = 0; square = mark })
    (square : List ℕ) (size : length square ≡ length mark) (modules : Below 3 square)
    (reach : (j : ℕ) → j < block_count v l → MeetsAt v l k square mark j)
    (p s r : List ℕ) (receipt : length r ≡ 12) (room-p : length payload ≤ length p) (room-s : length script ≤ length s) where
  is_mark : mark ≡ mark_of v l k script payload
  is_mark = (written v l k script payload before mark made).1

  is_written : Written v l k script payload before
  is_written = (written v l k script payload before mark made).0

  sized' : length square ≡ side_of v * side_of v
  sized' = size ∙ ap length is_mark ∙ mark_length v l k script payload is_written.ranged

  reach' : (j : ℕ) → j < block_count v l → MeetsAt v l k square (mark_of v l k script payload) j
  reach' j h = rw is_mark at (reach j h)

  pub mark_read : info_changed v mark square ≤ 8
      → read_of square (side_of v) p s r ≡ written_reading v l k (changed v l k square mark) (distance_in v square) script payload p s
  mark_read few =
      read_back v l k script payload before bytes is_written square sized' modules reach' p s room-p room-s r receipt
      (rw is_mark at few) ∙ rw is_mark

  pub mark_known : read_known_of square v l k p s r ≡ written_reading v l k (changed v l k square mark) 0 script payload p s
  mark_known =
      known_back v l k script payload before bytes is_written square sized' modules reach' p s room-p room-s r receipt
      ∙ rw is_mark

-- ---- a square with no unknown modules

-- nothing is erased in a block of it
pub nothing_erased : (v l : ℕ) (square : List ℕ) → Below 2 square → (j : ℕ) → erased_at v l square j ≡ 0
unfolding flags_in
nothing_erased v l square modules j = part_none (shapes_of v l) (flags_from v square) (flags_none v square modules) j

-- so that few changed codewords meet its condition
pub few_meet : (v l k : ℕ) (square mark : List ℕ) → Below 2 square → (j : ℕ) → changed_at v l k square mark j ≤ parity_in v l j / 2 → MeetsAt v l k square mark j
few_meet v l k square mark modules j h =
    let z = nothing_erased v l square modules j in
    record { none = λ _. h; few = λ o. absurd (omega (arith, z)); some = λ o. absurd (omega (arith, z)) }

pub flips_changed : (v : ℕ) (mark square : List ℕ) → Below 2 square → info_flips (layout_of v) mark square ≤ 8 → info_changed v mark square ≤ 8
flips_changed v mark square modules h = rw (bits_are square modules) h
