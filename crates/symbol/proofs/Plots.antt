-- Plots one after another.
use Rattle.general.proofs.Names.{◌≡◌, refl, sym, ap, subst, ◌∙◌, List, [], ◌∷◌, ◌++◌, ℕ, ◌+◌, ◌*◌, ◌<◌, ◌≤◌, ◌%◌, add-one, eq-eqb, ne_eqb, lt-ltb, le-ltb}
use Rattle.general.proofs.Names.{length, get_or, set, arith}
use lib.IntN.{ℤ, pos, nat_abs}
use mir.Syntax.{w64}
use mir.Val.{SFits, to_z, of_z}
use mir.Facts.{to_z-of_z}
use Rattle.symbol.specs.Layout.{when, odd, assistant, line_left, line_down, place_at, crossing, column_line, row_line, step_of, Plot, plot, plot_one, plot_all}
use Rattle.symbol.specs.Inner.{Plotted}
use Rattle.general.specs.Lists.{each}

pub plot_all_append : (s : ℕ) (ps qs : List Plot) (g : List ℕ) → plot_all s (ps ++ qs) g ≡ plot_all s qs (plot_all s ps g)
unfolding plot_all
plot_all_append s [] qs g = refl
plot_all_append s (plot x y k ∷ ps) qs g = plot_all_append s ps qs (plot_one s x y k g)

-- no plot
pub none : {s : ℕ} {g : List ℕ} → Plotted s [] g g
unfolding plot_all
none = record { is = refl }

-- these plots, then those
pub next : {s : ℕ} {ps qs : List Plot} {g g' g'' : List ℕ} → Plotted s ps g g' → Plotted s qs g' g'' → Plotted s (ps ++ qs) g g''
next {s} {ps} {qs} {g} d e = record { is = e.is ∙ ap (plot_all s qs) d.is ∙ sym (plot_all_append s ps qs g) }

-- a loop that plots: the turns below n are done, of as many as `to`
pub record TurnsDone (s : ℕ) (f : ℕ → List Plot) (to : ℕ) (g₀ g : List ℕ) (n : ℕ) : Type 0 where
  pub plotted : Plotted s (each n f) g₀ g
  pub few : n ≤ to
  pub kept : length g ≡ length g₀

pub begun : {s : ℕ} {f : ℕ → List Plot} {to : ℕ} {g : List ℕ} → TurnsDone s f to g g 0
unfolding each
begun = record { plotted = none; few = omega arith; kept = refl }

pub again : {s : ℕ} {f : ℕ → List Plot} {to : ℕ} {g₀ g g' : List ℕ} {n : ℕ} → n < to → TurnsDone s f to g₀ g n → Plotted s (f n) g g'
    → length g' ≡ length g → TurnsDone s f to g₀ g' (n + 1)
unfolding each
again {s} {f} {to} {g₀} {g} {g'} {n} h t e k =
    let p : Plotted s (each (n + 1) f) g₀ g' = subst (λ (m : ℕ). Plotted s (each m f) g₀ g') (sym (add-one n)) (next t.plotted e) in
    record { plotted = p; few = omega arith; kept = k ∙ t.kept }

pub ended : {s : ℕ} {f : ℕ → List Plot} {to : ℕ} {g₀ g : List ℕ} {n : ℕ} → to ≤ n → TurnsDone s f to g₀ g n → Plotted s (each to f) g₀ g
ended {s} {f} {to} {g₀} {g} {n} h t = let e : n ≡ to = omega arith in subst (λ (k : ℕ). Plotted s (each k f) g₀ g) e t.plotted

-- what a call says of coordinates as the machine reads them, of the coordinates
pub heard : {s : ℕ} (F : ℤ → ℤ → List Plot) {x y x' y' : ℤ} {g g' : List ℕ} → SFits w64 x → SFits w64 y → x ≡ x' → y ≡ y'
    → Plotted s (F (to_z w64 (of_z w64 x)) (to_z w64 (of_z w64 y))) g g' → Plotted s (F x' y') g g'
heard {s} F {x} {y} {x'} {y'} {g} {g'} a b p q e =
    subst (λ (z : ℤ). Plotted s (F z y') g g') (to_z-of_z a ∙ p) (subst (λ (z : ℤ). Plotted s (F (to_z w64 (of_z w64 x)) z) g g') (to_z-of_z b ∙ q) e)

-- what a call says of signed coordinates as numbers, of the coordinates
pub numbered : {s : ℕ} (F : ℤ → ℤ → List Plot) {x y : ℤ} {g g' : List ℕ} → SFits w64 x → SFits w64 y → x ≡ pos (nat_abs x) → y ≡ pos (nat_abs y)
    → Plotted s (F (pos (nat_abs (to_z w64 (of_z w64 x)))) (pos (nat_abs (to_z w64 (of_z w64 y))))) g g' → Plotted s (F x y) g g'
numbered {s} F {x} {y} {g} {g'} a b p q e =
    subst (λ (z : ℤ). Plotted s (F z y) g g') (ap (λ z. pos (nat_abs z)) (to_z-of_z a) ∙ sym p)
    (subst (λ (z : ℤ). Plotted s (F (pos (nat_abs (to_z w64 (of_z w64 x)))) z) g g') (ap (λ z. pos (nat_abs z)) (to_z-of_z b) ∙ sym q) e)

-- the same plots
pub exactly : {s : ℕ} {ps qs : List Plot} {g g' : List ℕ} → ps ≡ qs → Plotted s ps g g' → Plotted s qs g g'
exactly {s} {ps} {qs} {g} {g'} e t = subst (λ (l : List Plot). Plotted s l g g') e t

-- an assistant, or none
module _ {s : ℕ} (n : ℕ) (x y : ℤ) where
  pub odd_one : {g g' : List ℕ} → n % 2 ≡ 1 → Plotted s (assistant x y) g g' → Plotted s (when (odd n) (assistant x y)) g g'
  odd_one h t = exactly (simp (eq-eqb (n % 2) 1 h)) t

  pub even_none : {g : List ℕ} → n % 2 ≡ 0 → Plotted s (when (odd n) (assistant x y)) g g
  even_none h = exactly (simp (ne_eqb (n % 2) 1 (λ z. omega arith))) none

pub assisted : {s k k' : ℕ} {x y x' y' : ℤ} {g g' : List ℕ} → k ≡ k' → SFits w64 x → SFits w64 y → x ≡ x' → y ≡ y'
    → Plotted s (when (odd k) (assistant (to_z w64 (of_z w64 x)) (to_z w64 (of_z w64 y)))) g g'
    → Plotted s (when (odd k') (assistant x' y')) g g'
assisted {k = k} {x' = x'} {y' = y'} e f h p q t =
    exactly (ap (λ (n : ℕ). when (odd n) (assistant x' y')) e) (heard (λ a b. when (odd k) (assistant a b)) f h p q t)

-- the three ways of a crossing
module _ (v n j : ℕ) where
  pub crossing_odd : (n + j) % 2 ≡ 1 → [] ≡ crossing v n j
  unfolding crossing
  crossing_odd h = simp (eq-eqb ((n + j) % 2) 1 h)

  pub crossing_first : n + j ≡ 0 → [] ≡ crossing v n j
  unfolding crossing
  crossing_first h = simp h

  pub crossing_on : ((n + j) % 2 ≡ 1 → ⊥) → (n + j ≡ 0 → ⊥)
      → line_left (column_line v j) (row_line v n) (step_of v j) ++ line_down (column_line v j) (row_line v n) (step_of v n) ≡ crossing v n j
  unfolding crossing
  crossing_on h k = simp (ne_eqb ((n + j) % 2) 1 h, ne_eqb (n + j) 0 k)

-- the three ways of a plot
module _ (s : ℕ) (x y : ℤ) (k : ℕ) (g : List ℕ) (i : ℕ) (e : i ≡ place_at s x y) where
  pub plot_out : s * s ≤ i → g ≡ plot_one s x y k g
  unfolding plot_one
  plot_out h = rw (← e) (simp (le-ltb i (s * s) h))

  pub plot_kept : i < s * s → (get_or g i 0 ≡ 0 → ⊥) → g ≡ plot_one s x y k g
  unfolding plot_one
  plot_kept h n = rw (← e) (simp (lt-ltb i (s * s) h, ne_eqb (get_or g i 0) 0 n))

  pub plot_set : i < s * s → get_or g i 0 ≡ 0 → set g i k ≡ plot_one s x y k g
  unfolding plot_one
  plot_set h n = rw (← e) (simp (lt-ltb i (s * s) h, eq-eqb (get_or g i 0) 0 n))
