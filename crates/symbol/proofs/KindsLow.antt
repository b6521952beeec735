-- No kind is above 3: not in the corners, and not in a plot of the alignment.
use Rattle.general.proofs.Names.{sym, subst, Bool, true, false, cond, not, ◌&&◌, List, [], ◌∷◌, ◌++◌, ℕ, zero, suc, ◌+◌, ◌-◌, ◌*◌, ◌/◌, ◌%◌, ◌≤◌, arith}
use Rattle.general.proofs.Names.{dec_lt, ltb, eqb, get_or, set, get_or-eq_default}
use lib.IntN.{ℤ, pos, ◌+ℤ◌, ◌-ℤ◌}
use Rattle.symbol.specs.Version.{side_of}
use Rattle.symbol.specs.Layout.{Plot, plot, place_at, plot_one, plot_all, when, light, dark, odd, ring, finder_at, corner_at, corners, three_at}
use Rattle.symbol.specs.Layout.{assistant, row_ends, column_ends, line_module, line_left, line_down, crossing, crossings, alignment, layout_of, m_of, row_line}
use Rattle.symbol.specs.Layout.{column_line, step_of}
use Rattle.symbol.specs.Inner.{corner_kind}
use Rattle.general.specs.Each.{table}
use Rattle.general.specs.Lists.{each}
use Rattle.general.proofs.Lists.{length_table, get_or_table}

-- each plot of a list has a kind up to 3
data Low : List Plot → Type 0 where
  none : Low []
  more : {x y : ℤ} {k : ℕ} {ps : List Plot} → k ≤ 3 → Low ps → Low (plot x y k ∷ ps)

low_append : {ps qs : List Plot} → Low ps → Low qs → Low (ps ++ qs)
low_append none b = b
low_append (more h a) b = more h (low_append a b)

low_each : (n : ℕ) {f : ℕ → List Plot} → ((k : ℕ) → Low (f k)) → Low (each n f)
unfolding each
low_each zero h = none
low_each (suc n) h = low_append (low_each n h) (h n)

low_when : (b : Bool) {ps : List Plot} → Low ps → Low (when b ps)
low_when true h = h
low_when false h = none

low_three : (x y : ℤ) (k : ℕ) → k ≤ 3 → Low (three_at x y k)
unfolding three_at
low_three x y k h = more {k = light} (omega arith) (more h (more {k = light} (omega arith) none))

low_assistant : (x y : ℤ) → Low (assistant x y)
unfolding assistant
low_assistant x y =
    low_append (low_three x (y -ℤ pos 1) light (omega arith)) (low_append (low_three x y dark (omega arith)) (low_three x (y +ℤ pos 1) light (omega arith)))

low_ends : (a b : Bool) (x y z w : ℤ) → Low (when a (assistant x y) ++ when b (assistant z w))
low_ends a b x y z w = low_append (low_when a (low_assistant x y)) (low_when b (low_assistant z w))

low_line : (x y : ℤ) → Low (line_module x y)
unfolding line_module
low_line x y = more {k = dark} (omega arith) (more {k = light} (omega arith) none)

low_crossing : (v n j : ℕ) → Low (crossing v n j)
unfolding crossing line_left line_down
low_crossing v n j =
    low_when (not (odd (n + j)) && not (eqb (n + j) 0))
    (low_append (low_each (step_of v j + 1) (λ i. low_line (column_line v j -ℤ pos i) (row_line v n)))
    (low_each (step_of v n - 1) (λ i. low_line (column_line v j) (row_line v n +ℤ pos (i + 1)))))

low_alignment : (v : ℕ) → Low (alignment v)
unfolding alignment row_ends column_ends crossings
low_alignment v =
    low_append (low_each (m_of v + 2) (λ n. low_ends (odd (n + m_of v)) (odd n) (pos 0) (row_line v n) (pos (side_of v - 1)) (row_line v n)))
    (low_append (low_each (m_of v + 2) (λ n. low_ends (odd (n + m_of v)) (odd n) (column_line v n) (pos (side_of v - 1)) (column_line v n) (pos 0)))
    (low_each (m_of v + 2) (λ n. low_each (m_of v + 2) (low_crossing v n))))

corner_low : (s r c : ℕ) → corner_at s r c ≤ 3
unfolding corner_at finder_at
corner_low s r c = one (ltb (ring s r c) 7) (eqb (ring s r c) 7) (eqb (ring s r c) 8)
  where
    one : (a b d : Bool) → cond a (finder_at s r c) (cond b 2 (cond d 1 0)) ≤ 3
    one true b d = omega arith
    one false true d = omega arith
    one false false true = omega arith
    one false false false = omega arith

-- what holds of an element that is stored and of those that were there holds of all
pub set_any : (P : ℕ → Type 0) (g : List ℕ) (p x i : ℕ) → P x → P (get_or g i 0) → P (get_or (set g p x) i 0)
set_any P [] p x i a b = b
set_any P (y ∷ g) zero x zero a b = a
set_any P (y ∷ g) zero x (suc i) a b = b
set_any P (y ∷ g) (suc p) x zero a b = b
set_any P (y ∷ g) (suc p) x (suc i) a b = set_any P g p x i a b

plots_low : (s : ℕ) (ps : List Plot) (g : List ℕ) → Low ps → ((i : ℕ) → get_or g i 0 ≤ 3) → (i : ℕ) → get_or (plot_all s ps g) i 0 ≤ 3
unfolding plot_all plot_one
plots_low s [] g none h i = h i
plots_low s (plot x y k ∷ ps) g (more a l) h i =
    plots_low s ps (plot_one s x y k g) l (λ j. by (ltb (place_at s x y) (s * s) && eqb (get_or g (place_at s x y) 0) 0) j) i
  where
    by : (b : Bool) (j : ℕ) → get_or (cond b (set g (place_at s x y) k) g) j 0 ≤ 3
    by true j = set_any (λ n. n ≤ 3) g (place_at s x y) k j a (h j)
    by false j = h j

pub layout_low : (v i : ℕ) → get_or (layout_of v) i 0 ≤ 3
unfolding layout_of corners
layout_low v i = plots_low (side_of v) (cond (ltb v 4) [] (alignment v)) (corners (side_of v)) (by (ltb v 4)) flat i
  where
    by : (b : Bool) → Low (cond b [] (alignment v))
    by true = none
    by false = low_alignment v

    flat : (j : ℕ) → get_or (table (side_of v * side_of v) (corner_kind (side_of v))) j 0 ≤ 3
    flat j = elim (dec_lt j (side_of v * side_of v)) [
      | yes l ↦ subst (λ (n : ℕ). n ≤ 3) (sym (get_or_table (side_of v * side_of v) (corner_kind (side_of v)) j l))
          (corner_low (side_of v) (j / side_of v) (j % side_of v))
      | no l ↦ subst (λ (n : ℕ). n ≤ 3)
          (sym (get_or-eq_default (table (side_of v * side_of v) (corner_kind (side_of v))) 0
          (omega (arith, length_table (side_of v * side_of v) (corner_kind (side_of v)))))) (omega arith)
    ]
