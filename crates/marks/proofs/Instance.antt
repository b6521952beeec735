-- The premises of the theorem can be met: the digit 5 is written as a mark of version 1, and the mark is read back. Whether it is written is
-- computed. Assumes nothing.
use Rattle.general.proofs.Names.{◌≡◌, refl, ap, Bool, true, false, cond, ◌&&◌, bind, List, [], ◌∷◌, flat_map, ℕ, zero, suc, ◌+◌, ◌<◌, arith, eq-eqb, eqb}
use Rattle.general.proofs.Names.{length, take, get_or, replicate}
use Rattle.bits.specs.Bits.{low_bits, word_bits}
use Rattle.symbol.specs.Version.{is_version}
use Rattle.symbol.specs.Layout.{layout_of, plot_all, corners, corner_at, ring, edge, finder_at, finder_row, half, within, finders}
use Rattle.information.specs.Information.{is_info, info_flips}
use Rattle.block_table.specs.Table.{blocks, totals}
use Rattle.block_table.specs.Blocks.{has_blocks, row_holds, block_holds, row_of, total_of, shapes_of, shapes, batch, total_size, total_data}
use Rattle.symbol.specs.Layout.{data_modules}
use Rattle.codewords.specs.Codewords.{order}
use Rattle.script.specs.Writer.{is_digit, mode_has, numeric_words, mode_bits, encodings}
use Rattle.script.specs.Check.{allowed, segment_at, commands, commands_of}
use Rattle.reed_solomon.proofs.Distance.{distance_self}
use Rattle.marks.specs.Read.{Reading, first_refusal, unless, read_of, read_known_of}
use Rattle.marks.specs.Write.{mark_of, segments_refusal, fits, write_refusal, write_of}
use Rattle.marks.specs.Smallest.{smallest_of}
use Rattle.marks.specs.Promise.{block_in, Leftover, ModuleOf}
use Rattle.marks.proofs.Marks.{Ranges, mark_below}
use Rattle.marks.proofs.Theorems.{mark_is_read, mark_is_read_known, written_is_found}
use Rattle.general.specs.Lists.{each}

-- one command, numeric with a length of 1, and its digit
abbrev script : List ℕ
script = 1 ∷ 0 ∷ 1 ∷ []

abbrev payload : List ℕ
payload = 0x35 ∷ []

abbrev before : List ℕ
before = replicate 529 0

abbrev mark : List ℕ
mark = mark_of 1 0 0 script payload

blocked : has_blocks 1 0 ≡ true
unfolding has_blocks row_holds block_holds shapes_of shapes batch total_size row_of total_of data_modules blocks totals layout_of plot_all corners each corner_at ring edge finder_at finder_row half within finders
blocked = refl

accepted : write_refusal 1 0 0 script payload before ≡ 0
unfolding write_refusal first_refusal fits is_info is_version commands bind segment_at allowed mode_has is_digit encodings flat_map mode_bits numeric_words word_bits low_bits shapes_of shapes row_of blocks batch total_data
accepted =
    ap
    (λ (b : Bool). first_refusal (0 ∷ unless b 1 ∷ 0 ∷ segments_refusal (commands_of script payload) payload ∷ unless (fits 1 0 script payload) 13 ∷ []))
    blocked

made : write_of 1 0 0 script payload before ≡ record { number = 0; square = mark }
unfolding write_of
made = simp (eq-eqb (write_refusal 1 0 0 script payload before) 0 accepted)

bytes : (i : ℕ) → get_or script i 0 < 256
bytes zero = omega arith
bytes (suc zero) = omega arith
bytes (suc (suc zero)) = omega arith
bytes (suc (suc (suc i))) = omega arith

ranged : Ranges 1 0 0
ranged = record { low = omega arith; high = omega arith; level = omega arith; mask = omega arith }

flips_none : (ks g : List ℕ) → info_flips ks g g ≡ 0
unfolding info_flips
flips_none [] g = refl
flips_none (k ∷ ks) [] = refl
flips_none (k ∷ ks) (x ∷ g) = simp (eq-eqb x x refl, flips_none ks g) (none (eqb k 1))
  where
    none : (b : Bool) → cond (b && false) 1 0 + 0 ≡ 0
    none true = refl
    none false = refl

-- The mark is read, by both readings.
pub some_mark_is_read : (read_of mark 23 (0 ∷ []) (0 ∷ 0 ∷ 0 ∷ []) (replicate 12 0)).number ≡ 0
some_mark_is_read =
    ap (λ (r : Reading). r.number)
    (mark_is_read 1 0 0 script payload before mark bytes made mark refl (mark_below 1 0 0 script payload ranged)
    (λ j h. omega (arith, distance_self (block_in 1 0 0 mark j))) (0 ∷ []) (0 ∷ 0 ∷ 0 ∷ []) (replicate 12 0) refl (omega arith) (omega arith)
    (omega (arith, flips_none (layout_of 1) mark)))

pub some_mark_is_read_known : (read_known_of mark 1 0 0 (0 ∷ []) (0 ∷ 0 ∷ 0 ∷ []) (replicate 12 0)).number ≡ 0
some_mark_is_read_known =
    ap (λ (r : Reading). r.number)
    (mark_is_read_known 1 0 0 script payload before mark bytes made mark refl (mark_below 1 0 0 script payload ranged)
    (λ j h. omega (arith, distance_self (block_in 1 0 0 mark j))) (0 ∷ []) (0 ∷ 0 ∷ 0 ∷ []) (replicate 12 0) refl (omega arith) (omega arith))

-- There are leftover modules: in version 1 the last data module of the last row is one, with 204 data modules before it and 25 codewords.
pub some_leftover : Leftover 1 519
unfolding total_of data_modules totals layout_of plot_all corners each corner_at ring edge finder_at finder_row half within finders
some_leftover =
    let size : length (layout_of 1) ≡ 529 = refl in
    let before-it : data_modules (take 519 (layout_of 1)) ≡ 204 = refl in
    let total : total_of 1 ≡ 25 = refl in
    (omega arith, refl, omega arith)

-- Codewords have modules: in version 1 the last data module of the row above it, with 199 before it, is one of codeword 24, which goes to
-- stream place 12.
pub some_module : ModuleOf 1 12 496
unfolding order total_of data_modules totals layout_of plot_all corners each corner_at ring edge finder_at finder_row half within finders
some_module =
    let size : length (layout_of 1) ≡ 529 = refl in
    let before-it : data_modules (take 496 (layout_of 1)) ≡ 199 = refl in
    let total : total_of 1 ≡ 25 = refl in
    (omega arith, refl, omega arith, refl)

-- The digit is written as the smallest mark, too.
pub some_smallest_is_written : (smallest_of 0 0 script payload before).number ≡ 0
some_smallest_is_written = written_is_found 0 0 script payload before 1 before mark made (omega arith)
