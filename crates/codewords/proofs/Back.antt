-- From a stream to a square and back.
use Rattle.general.proofs.Names.{◌≡◌, ap, ap₂, ◌∙◌, sym, List, [], ◌∷◌, ◌++◌, map, ℕ, ◌*◌, ◌<◌, ◌≤◌, arith, length, get_or, take, drop, take-append-drop}
use Rattle.symbol.specs.Version.{side_of}
use Rattle.symbol.specs.Layout.{layout_of}
use Rattle.information.specs.Information.{info_written}
use Rattle.information.proofs.Flips.{info_length, info_else}
use Rattle.symbol.specs.Layout.{data_modules}
use Rattle.bits.specs.Bits.{bits_of, first_words}
use Rattle.bits.proofs.Reading.{length_bits}
use Rattle.codewords.specs.Codewords.{mask_bit, data_bits, placed, order, from_stream, to_stream}
use Rattle.codewords.specs.Inner.{stream_in, square_of}
use Rattle.codewords.proofs.Bits.{Bytes, codewords_back, first_front}
use Rattle.codewords.proofs.Interleave.{interleave_back, length_interleaved}
use Rattle.codewords.proofs.Placement.{data_placed, length_placed, data_agree}

bytes_map : (s ps : List ℕ) → ((i : ℕ) → get_or s i 0 < 256) → Bytes (map (λ p. get_or s p 0) ps)
bytes_map s [] h = tt
bytes_map s (p ∷ ps) h = (h p, bytes_map s ps h)

bytes_interleaved : (s : List ℕ) → ((i : ℕ) → get_or s i 0 < 256) → Bytes (from_stream s)
unfolding from_stream
bytes_interleaved s h = bytes_map s (order (length s)) h

pub length_square : (m : ℕ → ℕ) (ks s : List ℕ) → length (square_of m ks s) ≡ length ks
length_square m ks s = length_placed m 0 ks (bits_of (from_stream s))

-- squares that agree on the data modules of the codewords have one stream
pub stream_agree : (total : ℕ) (m : ℕ → ℕ) (ks a b : List ℕ) → length a ≡ length b
    → ((p : ℕ) → p < length ks → get_or ks p 0 ≡ 0 → data_modules (take p ks) < total * 8 → get_or a p 0 ≡ get_or b p 0)
    → stream_in total m ks a ≡ stream_in total m ks b
stream_agree total m ks a b l h =
    ap to_stream (sym (first_front 8 total _) ∙ ap (first_words 8 total) (data_agree m (total * 8) 0 ks a b l h) ∙ first_front 8 total _)

-- any square with the data modules of the square of s
pub stream_back : (m : ℕ → ℕ) (ks s sq : List ℕ) → ((i : ℕ) → get_or s i 0 < 256) → 8 * length s ≤ data_modules ks → length sq ≡ length ks
    → ((p : ℕ) → p < length ks → get_or ks p 0 ≡ 0 → get_or sq p 0 ≡ get_or (square_of m ks s) p 0) → stream_in (length s) m ks sq ≡ s
stream_back m ks s sq b h l a =
    let ds = bits_of (from_stream s) in
    let R = data_bits m 0 ks (placed m 0 ks ds) in
    let n : length (from_stream s) ≡ length s = length_interleaved s in
    let f : take (length ds) R ≡ ds = data_placed m 0 ks ds (omega (arith, length_bits (from_stream s))) in
    let g : R ≡ ds ++ drop (length ds) R = sym (take-append-drop (length ds) R) ∙ ap (λ (x : List ℕ). x ++ drop (length ds) R) f in
    let c : first_words 8 (length s) R ≡ from_stream s =
    ap₂ (first_words 8) (sym n) g ∙ codewords_back (from_stream s) (drop (length ds) R) (bytes_interleaved s b) in
    stream_agree (length s) m ks sq (placed m 0 ks ds) (l ∙ sym (length_placed m 0 ks ds)) (λ p i z q. a p i z) ∙ ap to_stream c ∙ interleave_back s

-- the square of a version, with an information word written into it
pub written_stream : (v mask w : ℕ) (s : List ℕ) → 1 ≤ v → ((i : ℕ) → get_or s i 0 < 256) → 8 * length s ≤ data_modules (layout_of v)
    → stream_in (length s) (mask_bit (side_of v) mask) (layout_of v) (info_written (side_of v) w (square_of (mask_bit (side_of v) mask) (layout_of v) s)) ≡ s
written_stream v mask w s lo b h =
    let m = mask_bit (side_of v) mask in
    let q = square_of m (layout_of v) s in
    stream_back m (layout_of v) s (info_written (side_of v) w q) b h (info_length (side_of v) w q ∙ length_square m (layout_of v) s)
    (λ p l e. info_else v w q lo p (λ z. let y : ◌≡◌ {A = ℕ} 0 1 = sym e ∙ z in omega arith))
