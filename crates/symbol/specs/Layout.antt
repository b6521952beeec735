-- SPECIFICATION 2.4, 4 and 10.2 (han_xin.rs: `layout`, `alignment`). A layout has s × s kinds, row by row: 0 data, 1 information, 2 light,
-- 3 dark.
use Rattle.std.specs.Prelude.{Bool, cond, not, ◌&&◌, ℕ, zero, suc, ◌+◌, ◌-◌, ◌*◌, ◌/◌, ◌%◌, ◌^◌, ltb, eqb, ℤ, pos, negsuc, ◌+ℤ◌, ◌-ℤ◌, get_or, set, length, drop}
use mathlib.Core.List.{List, [], ◌∷◌, ◌++◌, foldr}
use Rattle.general.specs.Lists.{each}
use Rattle.symbol.specs.Version.{side_of, is_version}
use Rattle.symbol.specs.declared.LayoutAnswer.{LayoutAnswer}
use Rattle.symbol.specs.declared.LayoutAnswer.TheVariants.{Filled, NoVersion, TooShort}

abbrev pub data_kind : ℕ
data_kind = 0

abbrev pub information : ℕ
information = 1

abbrev pub light : ℕ
light = 2

abbrev pub dark : ℕ
dark = 3

-- The corners (4.1 to 4.4): finders, separators and information modules.

-- the rows of the finders top left, bottom left, top right, bottom right; bit 6 is the leftmost module
unfoldable pub finders : List (List ℕ)
finders =
    (0x7F ∷ 0x40 ∷ 0x5F ∷ 0x50 ∷ 0x57 ∷ 0x57 ∷ 0x57 ∷ []) ∷
    (0x7F ∷ 0x01 ∷ 0x7D ∷ 0x05 ∷ 0x75 ∷ 0x75 ∷ 0x75 ∷ []) ∷
    (0x7F ∷ 0x01 ∷ 0x7D ∷ 0x05 ∷ 0x75 ∷ 0x75 ∷ 0x75 ∷ []) ∷
    (0x75 ∷ 0x75 ∷ 0x75 ∷ 0x05 ∷ 0x7D ∷ 0x01 ∷ 0x7F ∷ []) ∷ []

-- how far row or column i lies from the nearer edge
unfoldable pub edge : ℕ → ℕ → ℕ
edge s i = cond (ltb i (s - 1 - i)) i (s - 1 - i)

-- the greater of a place's distances from the nearer edges: in a corner, the square ring that it lies in, 0 the outermost
unfoldable pub ring : ℕ → ℕ → ℕ → ℕ
ring s r c = cond (ltb (edge s r) (edge s c)) (edge s c) (edge s r)

-- the half of a finder's row or column: 0 at the start, 1 at the end; and its place within the finder
unfoldable pub half : ℕ → ℕ
half i = cond (ltb i 7) 0 1

unfoldable pub within : ℕ → ℕ → ℕ
within s i = cond (ltb i 7) i (i - (s - 7))

-- the row of the left (0) or right (1) finder that lies in row r
unfoldable pub finder_row : ℕ → ℕ → ℕ → ℕ
finder_row s side r = get_or (get_or finders (half r + 2 * side) []) (within s r) 0

-- a module of a finder
unfoldable pub finder_at : ℕ → ℕ → ℕ → ℕ
finder_at s r c = light + finder_row s (half c) r / 2 ^ (6 - within s c) % 2

-- a finder has rings 0 to 6, its separator is ring 7, ring 8 has the information; all else is data
unfoldable pub corner_at : ℕ → ℕ → ℕ → ℕ
corner_at s r c = cond (ltb (ring s r c) 7) (finder_at s r c) (cond (eqb (ring s r c) 7) light (cond (eqb (ring s r c) 8) information data_kind))

-- row by row
unfoldable pub corners : ℕ → List ℕ
corners s = each (s * s) (λ i. corner_at s (i / s) (i % s) ∷ [])

-- Plots (4.7). A coordinate may lie outside the square: it is a whole number of either sign.

-- the place of column x and row y, or s × s where it lies outside
unfoldable pub place_at : ℕ → ℤ → ℤ → ℕ
place_at s (pos x) (pos y) = cond (ltb x s && ltb y s) (y * s + x) (s * s)
place_at s (pos x) (negsuc y) = s * s
place_at s (negsuc x) y = s * s

-- a place is given a kind while it is data; outside the square nothing is plotted
unfoldable pub plot_one : ℕ → ℤ → ℤ → ℕ → List ℕ → List ℕ
plot_one s x y kind g = cond (ltb (place_at s x y) (s * s) && eqb (get_or g (place_at s x y) 0) data_kind) (set g (place_at s x y) kind) g

-- a column, a row and a kind
pub data Plot : Type 0 where
  plot : ℤ → ℤ → ℕ → Plot

-- the plots of a list, one after another
unfoldable pub plot_all : ℕ → List Plot → List ℕ → List ℕ
plot_all s [] g = g
plot_all s (plot x y kind ∷ ps) g = plot_all s ps (plot_one s x y kind g)

abbrev pub when : Bool → List Plot → List Plot
when b ps = cond b ps []

-- The alignment patterns (4.5 to 4.9), from version 4.

-- k, r and m of each version
unfoldable pub ks : List ℕ
ks =
    0 ∷ 0 ∷ 0 ∷ 14 ∷ 16 ∷ 16 ∷ 17 ∷ 18 ∷ 19 ∷ 20 ∷ 14 ∷ 15 ∷ 16 ∷ 16 ∷ 17 ∷ 17 ∷ 18 ∷ 19 ∷ 20 ∷ 20 ∷ 21 ∷
    16 ∷ 17 ∷ 17 ∷ 18 ∷ 18 ∷ 19 ∷ 19 ∷ 20 ∷ 20 ∷ 21 ∷ 17 ∷ 17 ∷ 18 ∷ 18 ∷ 19 ∷ 19 ∷ 19 ∷ 20 ∷ 20 ∷ 17 ∷ 17 ∷
    18 ∷ 18 ∷ 18 ∷ 19 ∷ 19 ∷ 19 ∷ 17 ∷ 17 ∷ 18 ∷ 18 ∷ 18 ∷ 18 ∷ 19 ∷ 19 ∷ 19 ∷ 17 ∷ 17 ∷ 18 ∷ 18 ∷ 18 ∷ 18 ∷
    19 ∷ 19 ∷ 17 ∷ 17 ∷ 17 ∷ 18 ∷ 18 ∷ 18 ∷ 18 ∷ 19 ∷ 19 ∷ 17 ∷ 17 ∷ 17 ∷ 18 ∷ 18 ∷ 18 ∷ 18 ∷ 18 ∷ 17 ∷ 17 ∷ []

unfoldable pub rs : List ℕ
rs =
    0 ∷ 0 ∷ 0 ∷ 15 ∷ 15 ∷ 17 ∷ 18 ∷ 19 ∷ 20 ∷ 21 ∷ 15 ∷ 15 ∷ 15 ∷ 17 ∷ 17 ∷ 19 ∷ 19 ∷ 19 ∷ 19 ∷ 21 ∷ 21 ∷
    17 ∷ 16 ∷ 18 ∷ 17 ∷ 19 ∷ 18 ∷ 20 ∷ 19 ∷ 21 ∷ 20 ∷ 17 ∷ 19 ∷ 17 ∷ 19 ∷ 17 ∷ 19 ∷ 21 ∷ 19 ∷ 21 ∷ 18 ∷ 20 ∷
    17 ∷ 19 ∷ 21 ∷ 18 ∷ 20 ∷ 22 ∷ 17 ∷ 19 ∷ 15 ∷ 17 ∷ 19 ∷ 21 ∷ 17 ∷ 19 ∷ 21 ∷ 18 ∷ 20 ∷ 15 ∷ 17 ∷ 19 ∷ 21 ∷
    16 ∷ 18 ∷ 17 ∷ 19 ∷ 21 ∷ 15 ∷ 17 ∷ 19 ∷ 21 ∷ 15 ∷ 17 ∷ 18 ∷ 20 ∷ 22 ∷ 15 ∷ 17 ∷ 19 ∷ 21 ∷ 23 ∷ 17 ∷ 19 ∷ []

unfoldable pub ms : List ℕ
ms =
    0 ∷ 0 ∷ 0 ∷ 1 ∷ 1 ∷ 1 ∷ 1 ∷ 1 ∷ 1 ∷ 1 ∷ 2 ∷ 2 ∷ 2 ∷ 2 ∷ 2 ∷ 2 ∷ 2 ∷ 2 ∷ 2 ∷ 2 ∷ 2 ∷
    3 ∷ 3 ∷ 3 ∷ 3 ∷ 3 ∷ 3 ∷ 3 ∷ 3 ∷ 3 ∷ 3 ∷ 4 ∷ 4 ∷ 4 ∷ 4 ∷ 4 ∷ 4 ∷ 4 ∷ 4 ∷ 4 ∷ 5 ∷ 5 ∷
    5 ∷ 5 ∷ 5 ∷ 5 ∷ 5 ∷ 5 ∷ 6 ∷ 6 ∷ 6 ∷ 6 ∷ 6 ∷ 6 ∷ 6 ∷ 6 ∷ 6 ∷ 7 ∷ 7 ∷ 7 ∷ 7 ∷ 7 ∷ 7 ∷
    7 ∷ 7 ∷ 8 ∷ 8 ∷ 8 ∷ 8 ∷ 8 ∷ 8 ∷ 8 ∷ 8 ∷ 8 ∷ 9 ∷ 9 ∷ 9 ∷ 9 ∷ 9 ∷ 9 ∷ 9 ∷ 9 ∷ 10 ∷ 10 ∷ []

unfoldable pub m_of : ℕ → ℕ
m_of v = get_or ms (v - 1) 0

-- step n is k if n < m, else r − 1
unfoldable pub step_of : ℕ → ℕ → ℕ
step_of v n = cond (ltb n (m_of v)) (get_or ks (v - 1) 0) (get_or rs (v - 1) 0 - 1)

-- line n lies n steps in: lines 0 to m + 1 are inside, and the last is s − 1
unfoldable pub line_of : ℕ → ℕ → ℕ
line_of v zero = 0
line_of v (suc n) = line_of v n + step_of v n

-- rows are counted from the top, columns from the right
abbrev pub row_line : ℕ → ℕ → ℤ
row_line v n = pos (line_of v n)

abbrev pub column_line : ℕ → ℕ → ℤ
column_line v n = pos (side_of v - 1) -ℤ pos (line_of v n)

abbrev pub odd : ℕ → Bool
odd n = eqb (n % 2) 1

-- three modules side by side, the middle one of a kind
unfoldable pub three_at : ℤ → ℤ → ℕ → List Plot
three_at x y kind = plot (x -ℤ pos 1) y light ∷ plot x y kind ∷ plot (x +ℤ pos 1) y light ∷ []

-- an assistant pattern: a dark module in a light square of three
unfoldable pub assistant : ℤ → ℤ → List Plot
assistant x y = three_at x (y -ℤ pos 1) light ++ (three_at x y dark ++ three_at x (y +ℤ pos 1) light)

-- the assistants at the left and right end of row n: at the left where n and m are not both even or both odd, at the right where n is odd
unfoldable pub row_ends : ℕ → ℕ → List Plot
row_ends v n = when (odd (n + m_of v)) (assistant (pos 0) (row_line v n)) ++ when (odd n) (assistant (pos (side_of v - 1)) (row_line v n))

-- the assistants at the lower and upper end of column n
unfoldable pub column_ends : ℕ → ℕ → List Plot
column_ends v n = when (odd (n + m_of v)) (assistant (column_line v n) (pos (side_of v - 1))) ++ when (odd n) (assistant (column_line v n) (pos 0))

-- a dark module of a line, and the light one at its lower left
unfoldable pub line_module : ℤ → ℤ → List Plot
line_module x y = plot x y dark ∷ plot (x -ℤ pos 1) (y +ℤ pos 1) light ∷ []

-- a line of w + 1 modules to the left, and one of h down, the first of which they share
unfoldable pub line_left : ℤ → ℤ → ℕ → List Plot
line_left x y w = each (w + 1) (λ i. line_module (x -ℤ pos i) y)

unfoldable pub line_down : ℤ → ℤ → ℕ → List Plot
line_down x y h = each (h - 1) (λ i. line_module x (y +ℤ pos (i + 1)))

-- the two lines from row n and column j: where n + j is even, but not in the corner
unfoldable pub crossing : ℕ → ℕ → ℕ → List Plot
crossing v n j =
    when (not (odd (n + j)) && not (eqb (n + j) 0))
    (line_left (column_line v j) (row_line v n) (step_of v j) ++ line_down (column_line v j) (row_line v n) (step_of v n))

unfoldable pub crossings : ℕ → List Plot
crossings v = each (m_of v + 2) (λ n. each (m_of v + 2) (crossing v n))

-- all plots, in the order of SPECIFICATION 4.9
unfoldable pub alignment : ℕ → List Plot
alignment v = each (m_of v + 2) (row_ends v) ++ (each (m_of v + 2) (column_ends v) ++ crossings v)

-- The layout of version v.
unfoldable pub layout_of : ℕ → List ℕ
layout_of v = plot_all (side_of v) (cond (ltb v 4) [] (alignment v)) (corners (side_of v))

-- how many data modules a layout has (7.4)
unfoldable pub data_modules : List ℕ → ℕ
data_modules ks = foldr (λ k n. cond (eqb k data_kind) (suc n) n) 0 ks

-- SPECIFICATION 10.2, Layout. 1: no such version; 2: the buffer is shorter than s × s; 0: filled.
unfoldable pub layout_refusal : ℕ → List ℕ → ℕ
layout_refusal v out = cond (is_version v) (cond (ltb (length out) (side_of v * side_of v)) 2 0) 1

-- a refusal writes nothing, and the bytes beyond the layout stay
unfoldable pub layout_written : ℕ → List ℕ → List ℕ
layout_written v out = cond (eqb (layout_refusal v out) 0) (layout_of v ++ drop (side_of v * side_of v) out) out

-- an answer's refusal number
abbrev pub layout_number : LayoutAnswer → ℕ
layout_number Filled = 0
layout_number NoVersion = 1
layout_number TooShort = 2
