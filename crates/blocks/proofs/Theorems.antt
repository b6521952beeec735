-- What a customer may quote of blocks that are corrected and made one after the other. Each holds for any blocks that hold the rule of a
-- row: data, parity, and at most 255 codewords. Assumes nothing.
use Rattle.general.proofs.Names.{◌≡◌, sym, ap, subst, ◌∙◌, ◌⊎◌, ◌≢◌, cond, List, [], ◌∷◌, ◌++◌, append-nil, ℕ, ◌<◌, arith, T, ltb, length, get_or}
use Rattle.general.proofs.Names.{take, drop, take-append-drop, ne_eqb}
use Rattle.reed_solomon.specs.Erased.{erasures, Meets}
use Rattle.reed_solomon.proofs.Search.{Bytes}
use Rattle.erasure_corrector.specs.Erased.{correct_erased_of}
use Rattle.block_table.specs.Blocks.{row_holds, Shape, size, total_size, total_data, cut, joined, data_parts, cut_data}
use Rattle.block_table.specs.Inner.{Sound}
use Rattle.block_table.proofs.Rows.{row_total}
use Rattle.block_table.proofs.Cuts.{Shaped, cut_shaped, cut_joined, length_joined, data_back}
use Rattle.blocks.specs.Blockwise.{first_refused, count_of, blocks_of, corrected, left_of, with_parities, stream_of, differences, block_at}
use Rattle.blocks.specs.Blockwise.{parity_at}
use Rattle.blocks.proofs.Corrects.{block_facts, cut_number, blocks_shaped, joined_size, left_behind, unset, unset_part}
use Rattle.blocks.proofs.Rule.{cut_front}
use Rattle.blocks.proofs.RefusedStreams.{FirstLost, EachFound, Coded, lost_refused, each_settled, either, coded_shaped, coded_each}
use Rattle.blocks.proofs.Written.{encoded_coded, joined_bytes}
use Rattle.blocks.specs.Inner.{corrected_data}

-- The length of blocks that hold the rule of a row for a total is that total, so that they hold it for their own length.
pub row_holds_own : (bs : List Shape) (total : ℕ) → T (row_holds bs total) → (total_size bs ≡ total) × T (row_holds bs (total_size bs))
row_holds_own bs total t = let e = row_total bs total t in (e, rw e t)

-- The stream that is left where no block is refused: each block as it was corrected, and what is behind them as it was.
pub left_accepted : (bs : List Shape) (fl s : List ℕ) → first_refused (corrected bs fl s) ≡ 0
    → left_of bs fl s ≡ joined (blocks_of (corrected bs fl s)) ++ drop (total_size bs) s
unfolding left_of
left_accepted bs fl s e = ap (λ (l : List Shape). left_of l fl s) (sym (append-nil bs)) ∙ left_behind bs [] fl s e

-- Where the first of the blocks to be refused is b: those before it as they were corrected, and b and what is behind it as they were.
pub left_refused : (bs cs : List Shape) (b : Shape) (fl s : List ℕ) → first_refused (corrected bs fl s) ≡ 0
    → (correct_erased_of 0x163 1 b.parity (take (size b) (drop (total_size bs) fl)) (take (size b) (drop (total_size bs) s))).number ≢ 0
    → left_of (bs ++ (b ∷ cs)) fl s ≡ joined (blocks_of (corrected bs fl s)) ++ drop (total_size bs) s
unfolding left_of
left_refused bs cs b fl s e d =
    let t = drop (total_size bs) s in
    let w = take (size b) t in
    let f = take (size b) (drop (total_size bs) fl) in
    left_behind bs (b ∷ cs) fl s e
    ∙ rw (ne_eqb (correct_erased_of 0x163 1 b.parity f w).number 0 d, (block_facts b.parity f w).2 d, take-append-drop (size b) t)

-- Where no flag is set, it does not matter how many flags there are.
pub unset_corrected : (bs : List Shape) (fl gl s : List ℕ) → ((i : ℕ) → get_or fl i 0 ≡ 0) → ((i : ℕ) → get_or gl i 0 ≡ 0) → corrected bs fl s ≡ corrected bs gl s
unset_corrected = unset

-- Then nothing is erased in any block.
pub part_none : (bs : List Shape) (fl : List ℕ) → ((i : ℕ) → get_or fl i 0 ≡ 0) → (j : ℕ) → erasures (block_at (cut bs fl) j) ≡ 0
part_none = unset_part

module _ (bs : List Shape) (sound : Sound bs) where
  -- ---- any stream, and as many flags

  module _ (fl s : List ℕ) (size : length s ≡ total_size bs) where
    shaped : Shaped bs (cut bs s)
    shaped = cut_shaped bs s (omega arith)

    -- If block j is the first that has no codeword which its rule admits, the stream is answered 15 or 6: 15 where more of its codewords are
    -- erased than it has parity ..
    pub lost_then_refused : (j : ℕ) → FirstLost bs (cut bs fl) (cut bs s) j
        → first_refused (corrected bs fl s) ≡ cond (ltb (parity_at bs j) (erasures (block_at (cut bs fl) j))) 15 6
    lost_then_refused j F = lost_refused bs (cut bs fl) (cut bs s) sound (cut_number bs fl) shaped j F

    -- .. and if each has one, each is set to it, and the count is the number of places in which the stream's blocks differ from these.
    pub each_then_set : (vs : List (List ℕ)) → EachFound bs (cut bs fl) (cut bs s) vs
        → (first_refused (corrected bs fl s) ≡ 0) × (blocks_of (corrected bs fl s) ≡ vs) × (count_of (corrected bs fl s) ≡ differences (cut bs s) vs)
    each_then_set vs E = each_settled bs (cut bs fl) (cut bs s) vs sound (cut_number bs fl) shaped E

    -- One or the other.
    pub lost_or_each : ((j : ℕ) × FirstLost bs (cut bs fl) (cut bs s) j) ⊎ ((vs : List (List ℕ)) × EachFound bs (cut bs fl) (cut bs s) vs)
    lost_or_each = either bs (cut bs fl) (cut bs s) (cut_number bs fl) shaped

    -- The blocks as they are left, joined, are a stream with these blocks.
    pub cut_corrected : cut bs (joined (blocks_of (corrected bs fl s))) ≡ blocks_of (corrected bs fl s)
    cut_corrected = cut_joined bs (blocks_of (corrected bs fl s)) (blocks_shaped bs (cut bs fl) (cut bs s) (cut_number bs fl) shaped)

    -- The data parts of the stream that is left, whatever stands behind it, are the data of the corrected blocks.
    pub data_left : (rest : List ℕ) → data_parts bs (cut bs (joined (blocks_of (corrected bs fl s)) ++ rest)) ≡ corrected_data bs fl s
    data_left rest =
        ap (data_parts bs)
        (cut_front bs (joined (blocks_of (corrected bs fl s))) rest (omega (arith, joined_size bs fl s (omega arith))) ∙ cut_corrected)

  -- ---- a stream that is written

  module _ (ds : List ℕ) (bytes : Bytes ds) (number : length ds ≡ total_data bs) where
    coded : Coded bs (with_parities bs (cut_data bs ds))
    coded = (encoded_coded bs ds sound bytes (omega arith)).0

    blocks_are : cut bs (stream_of bs ds) ≡ with_parities bs (cut_data bs ds)
    blocks_are = cut_joined bs (with_parities bs (cut_data bs ds)) (coded_shaped bs (with_parities bs (cut_data bs ds)) coded)

    -- The stream of data codewords has bytes, as many as the blocks; its blocks are codewords, and their data parts are the data.
    pub written_blocks : (length (stream_of bs ds) ≡ total_size bs) × Bytes (stream_of bs ds) × Coded bs (cut bs (stream_of bs ds))
        × (data_parts bs (cut bs (stream_of bs ds)) ≡ ds)
    written_blocks = (
      length_joined bs (with_parities bs (cut_data bs ds)) (coded_shaped bs (with_parities bs (cut_data bs ds)) coded),
      joined_bytes bs (with_parities bs (cut_data bs ds)) coded,
      subst (Coded bs) (sym blocks_are) coded,
      ap (data_parts bs) blocks_are ∙ data_back bs ds (with_parities bs (cut_data bs ds)) number (encoded_coded bs ds sound bytes (omega arith)).1,
    )

    -- If each block of a stream, with its flags, meets its condition for the written block, then the stream is accepted, each block becomes
    -- the written one, the data parts are the data, and the count is the number of places that differ.
    pub in_reach : (fl s : List ℕ) → length fl ≡ total_size bs → length s ≡ total_size bs
        → ((j : ℕ) → j < length bs → Meets (parity_at bs j) (block_at (cut bs fl) j) (block_at (cut bs s) j) (block_at (cut bs (stream_of bs ds)) j))
        → (first_refused (corrected bs fl s) ≡ 0) × (blocks_of (corrected bs fl s) ≡ cut bs (stream_of bs ds)) × (corrected_data bs fl s ≡ ds)
        × (count_of (corrected bs fl s) ≡ differences (cut bs s) (cut bs (stream_of bs ds)))
    in_reach fl s flags size near =
        let h = cut_shaped bs s (omega arith) in
        let g = cut_shaped bs fl (omega arith) in
        let vs = cut bs (stream_of bs ds) in
        let q = each_settled bs (cut bs fl) (cut bs s) vs sound (cut_number bs fl) h (coded_each bs (cut bs fl) (cut bs s) vs sound g h written_blocks.2 near) in
        (q.0, q.1, ap (data_parts bs) q.1 ∙ written_blocks.3, q.2)
