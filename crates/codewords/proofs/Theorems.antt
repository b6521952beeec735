-- What a customer may quote of the placement of codewords.
use Rattle.general.proofs.Names.{◌≡◌, List, ℕ, ◌*◌, ◌<◌, ◌≤◌, length, get_or}
use Rattle.symbol.specs.Version.{side_of}
use Rattle.symbol.specs.Layout.{layout_of}
use Rattle.information.specs.Information.{info_written}
use Rattle.symbol.specs.Layout.{data_modules}
use Rattle.codewords.specs.Codewords.{mask_bit, to_stream, from_stream}
use Rattle.codewords.specs.Inner.{stream_in, square_of}
use Rattle.codewords.proofs.Interleave as interleave
use Rattle.codewords.proofs.Back as back
use Rattle.codewords.proofs.Small as small

-- Codewords that are interleaved out of a stream go back to it.
pub interleave_back : (s : List ℕ) → to_stream (from_stream s) ≡ s
interleave_back = interleave.interleave_back

-- A stream that was placed in a square is read out of it, for every layout with enough data modules, every mask, and whatever stands in the other modules.
pub stream_back : (m : ℕ → ℕ) (ks s sq : List ℕ) → ((i : ℕ) → get_or s i 0 < 256) → 8 * length s ≤ data_modules ks → length sq ≡ length ks
    → ((p : ℕ) → p < length ks → get_or ks p 0 ≡ 0 → get_or sq p 0 ≡ get_or (square_of m ks s) p 0) → stream_in (length s) m ks sq ≡ s
stream_back = back.stream_back

-- So too for a version's square into which an information word was written.
pub written_stream : (v mask w : ℕ) (s : List ℕ) → 1 ≤ v → ((i : ℕ) → get_or s i 0 < 256) → 8 * length s ≤ data_modules (layout_of v)
    → stream_in (length s) (mask_bit (side_of v) mask) (layout_of v) (info_written (side_of v) w (square_of (mask_bit (side_of v) mask) (layout_of v) s)) ≡ s
written_stream = back.written_stream

-- The square of a stream has modules 0 and 1 only, and the stream of such a square has bytes only.
pub square_bits : (m : ℕ → ℕ) (ks s : List ℕ) → ((i : ℕ) → m i < 2) → (i : ℕ) → get_or (square_of m ks s) i 0 < 2
square_bits = small.square_below

pub stream_bytes : (total : ℕ) (m : ℕ → ℕ) (ks sq : List ℕ) → ((i : ℕ) → m i < 2) → ((i : ℕ) → get_or sq i 0 < 2) → (i : ℕ)
    → get_or (stream_in total m ks sq) i 0 < 256
stream_bytes = small.stream_below
