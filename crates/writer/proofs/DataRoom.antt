-- The room for data codewords in the row of a version and level. Assumes nothing.
use Rattle.general.proofs.Names.{◌≡◌, refl, ◌∙◌, List, ◌++◌, ℕ, ◌*◌, ◌≤◌, arith, length, take, drop, length-append, length-drop}
use Rattle.general.proofs.Names.{length-take-le}
use Rattle.symbol.specs.Version.{side_of}
use Rattle.block_table.specs.Blocks.{total_of, row_of, shapes, shapes_of, total_data}
use Rattle.script.specs.Inner.{Fits}
use Rattle.marks.specs.Write.{room_of, write_refusal}
use Rattle.marks.proofs.Marks.{no_refusal}
use Rattle.marks.proofs.Starts.{row_total, row_data, data_le}
use Rattle.writer.specs.declared.Mark.{Mark}
use Rattle.writer.specs.Inner.{ValidMark}

-- r is the row of the mark's version and level: it has their data codewords, no more than a buffer has bytes and no more than codewords
pub room_is : {m : Mark} (R : ValidMark m) (r : List ℕ) → r ≡ row_of m.version m.level → (n : ℕ) → n ≡ total_data (shapes r)
    → (n ≡ room_of m.version m.level) × (n ≤ 3886) × (n ≤ total_of m.version)
unfolding shapes_of
room_is {m} R r is n e = (
  e ∙ rw is,
  omega (arith, row_data m.version m.level R.low R.high R.level r is),
  omega (arith, data_le (shapes r), row_total m.version m.level R.low R.high R.level r is),
)

-- and the data codewords of a version and level are at most 3,886
pub room_small : (v level : ℕ) → 1 ≤ v → v ≤ 84 → level ≤ 3 → room_of v level ≤ 3886
unfolding shapes_of
room_small v level low high l = row_data v level low high l (row_of v level) refl

-- script and payload that fit, where the first n bytes of a buffer are lent for the data codewords
pub fits_lent : (s p xs : List ℕ) (n room : ℕ) → n ≡ room → n ≤ 3886 → n ≤ length xs → Fits s p room
    → Fits s p (length (take n xs)) × (length (take n xs) ≤ 3886)
fits_lent s p xs n room e m h f = let l = length-take-le n xs h in (rw (l, e) f, omega arith)

-- the buffer afterwards, where what is lent keeps its length
pub lent_back : (n t : ℕ) (front xs : List ℕ) → length front ≡ length (take n xs) → n ≤ length xs → t ≤ length xs → t ≤ length (front ++ drop n xs)
lent_back n t front xs e h k = omega (arith, length-append front (drop n xs), length-drop n xs, length-take-le n xs h)

-- where nothing is refused, script and payload fit the data codewords, and the square has its size
module _ (v l k : ℕ) (s p sq : List ℕ) (e : write_refusal v l k s p sq ≡ 0) where
  pub fits : Fits s p (room_of v l)
  fits = (no_refusal v l k s p sq e).fits

  pub size : length sq ≡ side_of v * side_of v
  size = (no_refusal v l k s p sq e).size
