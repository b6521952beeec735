-- The stream in front of a lent buffer, the square that it is placed in, and the mark. Assumes nothing.
use Rattle.general.proofs.Names.{◌≡◌, ap, ◌∙◌, List, ◌++◌, ℕ, ◌*◌, ◌≤◌, arith, length, take, drop, length-append, length-drop, take_at}
use Rattle.bits.specs.Bits.{bits_of}
use Rattle.symbol.specs.Version.{side_of}
use Rattle.symbol.specs.Layout.{layout_of}
use Rattle.information.specs.Information.{info_written}
use Rattle.block_table.specs.Blocks.{total_of, row_of, Shape, shapes, shapes_of, total_size, total_data}
use Rattle.codewords.specs.Codewords.{mask_bit, placed, from_stream}
use Rattle.blocks.specs.Blockwise.{stream_of}
use Rattle.script.specs.Check.{commands_of}
use Rattle.marks.specs.Write.{room_of, mark_of}
use Rattle.writer.specs.declared.Mark.{Mark}
use Rattle.writer.specs.Inner.{ValidMark, MarkWithLayout}
use Rattle.codewords.specs.Inner.{square_of}
use Rattle.script.specs.Inner.{script_data}

-- a buffer that kept its length and got xs in place of its first n bytes begins with xs
front : (n : ℕ) (xs s s' : List ℕ) → n ≤ length s → length s' ≡ length s → s' ≡ xs ++ drop n s → take n s' ≡ xs
front n xs s s' h k e = ap (take n) e ∙ take_at xs (drop n s) n (omega (arith, ap length e, length-append xs (drop n s), length-drop n s))

-- ---- the stream

-- data encoded, and written into the blocks of a row
pub stream_encoded : (script payload : List ℕ) (bs : List Shape) (ds s s' : List ℕ) (n : ℕ) → n ≡ total_data bs → ds ≡ script_data n (commands_of script payload)
    → total_size bs ≤ length s → length s' ≡ length s → s' ≡ stream_of bs ds ++ drop (total_size bs) s
    → take (total_size bs) s' ≡ stream_of bs (script_data (total_data bs) (commands_of script payload))
stream_encoded script payload bs ds s s' n en ed h k e =
    front (total_size bs) (stream_of bs ds) s s' h k e ∙ rw (ed, en)

-- for the row of a version and level
pub stream_of_row : (script payload : List ℕ) (v l : ℕ) (r s : List ℕ) → r ≡ row_of v l → total_size (shapes r) ≡ total_of v
    → take (total_size (shapes r)) s ≡ stream_of (shapes r) (script_data (total_data (shapes r)) (commands_of script payload))
    → take (total_of v) s ≡ stream_of (shapes_of v l) (script_data (room_of v l) (commands_of script payload))
unfolding shapes_of
stream_of_row script payload v l r s er en e = rw (← en, ← er) e

-- ---- the square

-- a stream placed in a square, by way of its codewords in front of a buffer
module _ (m : Mark) (ks : List ℕ) (R : MarkWithLayout m ks) (stream found found' sq sq' : List ℕ) (total side : ℕ) (et : total ≡ total_of m.version)
    (es : side ≡ side_of m.version) where
  pub stream_placed : total ≤ length found → length found' ≡ length found → found' ≡ from_stream (take total stream) ++ drop total found
      → length sq ≡ side_of m.version * side_of m.version → sq' ≡ placed (mask_bit side m.mask) 0 (take (length sq) ks) (bits_of (take total found'))
      → sq' ≡ square_of (mask_bit (side_of m.version) m.mask) (layout_of m.version) (take (total_of m.version) stream)
  stream_placed h k e n f =
      f ∙ rw (front total (from_stream (take total stream)) found found' h k e, n, R.kinds, es, et)

-- the mark: its stream placed, then its word written
pub mark_made : (m : Mark) (s p stream sq sq' : List ℕ) (side : ℕ) → ValidMark m → side ≡ side_of m.version
    → stream ≡ stream_of (shapes_of m.version m.level) (script_data (room_of m.version m.level) (commands_of s p))
    → sq ≡ square_of (mask_bit (side_of m.version) m.mask) (layout_of m.version) stream → sq' ≡ info_written side m.word sq
    → sq' ≡ mark_of m.version m.level m.mask s p
unfolding mark_of
mark_made m s p stream sq sq' side R es a b e = e ∙ rw (es, R.word, b, a)
