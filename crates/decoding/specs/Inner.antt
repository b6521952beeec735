-- What inner functions say of each other. Nobody has to believe it: the contracts of the operations do not cite it.
use Rattle.std.specs.Prelude.{◌≡◌, Bool, false, cond, List, ◌++◌, ℕ, ◌*◌, ◌<◌, ◌≤◌, length, get_or, take}
use Rattle.symbol.specs.Version.{side_of}
use Rattle.symbol.specs.Layout.{layout_of}
use Rattle.block_table.specs.Blocks.{has_blocks}
use Rattle.marks.specs.Read.{Reading, reading_of, refused, stream_from, flags_from, body_of}
use Rattle.receipts.specs.declared.Mark.{Mark}
use Rattle.receipts.specs.declared.SquareAnswer.{SquareAnswer}
use Rattle.receipts.specs.Inner.{receipt_in, FitsReceipt}

-- a square that has passed the first refusals, read with m
pub record PassesFirstRefusals (m : Mark) (sq : List ℕ) : Type 0 where
  pub low : 1 ≤ m.version
  pub high : m.version ≤ 84
  pub level : m.level ≤ 3
  pub mask : m.mask ≤ 3
  pub near : m.distance ≤ 10
  pub size : length sq ≡ side_of m.version * side_of m.version
  pub modules : (i : ℕ) → get_or sq i 0 < 3

-- a version and level of the table
pub record InTable (m : Mark) : Type 0 where
  pub low : 1 ≤ m.version
  pub high : m.version ≤ 84
  pub level : m.level ≤ 3

-- the layout of a version at the front of a buffer
pub record HasLayout (v : ℕ) (ks : List ℕ) : Type 0 where
  pub room : side_of v * side_of v ≤ length ks
  pub front : take (side_of v * side_of v) ks ≡ layout_of v

-- the stream of a square read with m at the front of a buffer
pub record HasStream (m : Mark) (sq st : List ℕ) : Type 0 where
  pub rest : List ℕ
  pub is : st ≡ stream_from m.version m.mask sq ++ rest

-- no module of a square is unknown, unless it is said so
pub record Tells (unknown : Bool) (sq : List ℕ) : Type 0 where
  pub none : unknown ≡ false → (i : ℕ) → get_or sq i 0 < 2

-- the flags of a square at the front of a buffer
pub record FlagsRead (v : ℕ) (sq fl : List ℕ) : Type 0 where
  pub rest : List ℕ
  pub is : fl ≡ flags_from v sq ++ rest

-- the same; or no flags at all, where none is set
pub record HasFlags (v : ℕ) (sq fl : List ℕ) : Type 0 where
  pub some : 0 < length fl → FlagsRead v sq fl
  pub none : length fl ≡ 0 → (i : ℕ) → get_or (flags_from v sq) i 0 ≡ 0

-- what a square read with m gives, if t is the answer for it
unfoldable pub reading_in : Mark → SquareAnswer → List ℕ → List ℕ → Reading
reading_in m t p s = reading_of t.number (receipt_in m t) p s

-- t is the answer for a stream with flags: it is what each square with these gives, p' and s' being payload and script afterwards
pub record AnswersStream (m : Mark) (st fl p s : List ℕ) (t : SquareAnswer) (p' s' : List ℕ) : Type 0 where
  pub reading : (sq : List ℕ) → HasStream m sq st → HasFlags m.version sq fl → reading_in m t p' s' ≡ body_of m.version m.level m.mask m.distance sq p s
  pub small : FitsReceipt t

-- what the square gives, or 1 for a version and level without blocks
unfoldable pub body_or1 : Mark → List ℕ → List ℕ → List ℕ → Reading
body_or1 m sq p s =
    cond (has_blocks m.version m.level) (body_of m.version m.level m.mask m.distance sq p s) (refused 1 p s)
