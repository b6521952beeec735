-- What a list of plots does to one place: the first plot of the place wins where it was data.
use Rattle.general.proofs.Names.{◌≡◌, refl, sym, ap, ◌∙◌, Bool, true, false, cond, ◌&&◌, List, [], ◌∷◌, ◌++◌, ℕ, zero, suc, ◌*◌, ◌<◌, ◌≤◌, ℕ_discrete}
use Rattle.general.proofs.Names.{arith, eqb, ltb, length, get_or, set, length-set, get_or-set_same, get_or-set_other, eq-eqb, ne_eqb}
use lib.IntN.{ℤ, pos, ◌+ℤ◌, ◌-ℤ◌}
use Rattle.symbol.specs.Layout.{Plot, plot, place_at, plot_one, plot_all, line_module}
use Rattle.symbol.specs.Inner.{drawn}
use Rattle.symbol.proofs.Plots.{plot_out, plot_kept, plot_set}
use Rattle.general.specs.Lists.{each}

drawn_data : {a : ℕ} (k : ℕ) → a ≡ 0 → drawn a k ≡ k
unfolding drawn
drawn_data {a} k e = simp (eq-eqb a 0 e)

pub drawn_kept : {a : ℕ} (k : ℕ) → (a ≡ 0 → ⊥) → drawn a k ≡ a
unfolding drawn
drawn_kept {a} k n = simp (ne_eqb a 0 n)

pub drawn_zero : (a : ℕ) → drawn a 0 ≡ a
drawn_zero a = elim (ℕ_discrete a 0) [ yes e ↦ drawn_data 0 e ∙ sym e | no n ↦ drawn_kept 0 n ]

drawn_assoc : (a k l : ℕ) → drawn (drawn a k) l ≡ drawn a (drawn k l)
drawn_assoc a k l = elim (ℕ_discrete a 0) [
  | yes e ↦ ap (λ (b : ℕ). drawn b l) (drawn_data k e) ∙ sym (drawn_data (drawn k l) e)
  | no n ↦ ap (λ (b : ℕ). drawn b l) (drawn_kept k n) ∙ drawn_kept l n ∙ sym (drawn_kept (drawn k l) n)
]

-- what one plot would give place p
hit : ℕ → ℤ → ℤ → ℕ → ℕ → ℕ
hit s x y k p = cond (eqb (place_at s x y) p) k 0

hit_on : (s : ℕ) (x y : ℤ) (k p : ℕ) → place_at s x y ≡ p → hit s x y k p ≡ k
unfolding hit
hit_on s x y k p e = simp (eq-eqb (place_at s x y) p e)

hit_off : (s : ℕ) (x y : ℤ) (k p : ℕ) → (place_at s x y ≡ p → ⊥) → hit s x y k p ≡ 0
unfolding hit
hit_off s x y k p n = simp (ne_eqb (place_at s x y) p n)

-- what a list of plots would give it
pub first : ℕ → List Plot → ℕ → ℕ
first s [] p = 0
first s (plot x y k ∷ ps) p = drawn (hit s x y k p) (first s ps p)

one_length : (s : ℕ) (x y : ℤ) (k : ℕ) (g : List ℕ) → length (plot_one s x y k g) ≡ length g
unfolding plot_one
one_length s x y k g = by (ltb (place_at s x y) (s * s) && eqb (get_or g (place_at s x y) 0) 0)
  where
    by : (b : Bool) → length (cond b (set g (place_at s x y) k) g) ≡ length g
    by true = length-set g (place_at s x y) k
    by false = refl

one_other : (s : ℕ) (x y : ℤ) (k : ℕ) (g : List ℕ) (p : ℕ) → (p ≡ place_at s x y → ⊥) → get_or (plot_one s x y k g) p 0 ≡ get_or g p 0
unfolding plot_one
one_other s x y k g p n = by (ltb (place_at s x y) (s * s) && eqb (get_or g (place_at s x y) 0) 0)
  where
    by : (b : Bool) → get_or (cond b (set g (place_at s x y) k) g) p 0 ≡ get_or g p 0
    by true = get_or-set_other g (place_at s x y) p k 0 n
    by false = refl

-- one plot, at a place of the square and beyond it
one_at : (s : ℕ) (x y : ℤ) (k : ℕ) (g : List ℕ) (p : ℕ) → p < s * s → s * s ≤ length g → get_or (plot_one s x y k g) p 0 ≡ drawn (get_or g p 0) (hit s x y k p)
one_at s x y k g p h l = elim (ℕ_discrete p (place_at s x y)) [
  | yes e ↦ elim (ℕ_discrete (get_or g p 0) 0) [
    | yes z ↦ ap (λ (q : List ℕ). get_or q p 0) (sym (plot_set s x y k g p e h z)) ∙ get_or-set_same g p k 0 (omega arith)
        ∙ sym (drawn_data (hit s x y k p) z ∙ hit_on s x y k p (sym e))
    | no n ↦ ap (λ (q : List ℕ). get_or q p 0) (sym (plot_kept s x y k g p e h n)) ∙ sym (drawn_kept (hit s x y k p) n)
  ]
  | no n ↦ one_other s x y k g p n ∙ sym (ap (drawn (get_or g p 0)) (hit_off s x y k p (λ e. n (sym e))) ∙ drawn_zero (get_or g p 0))
]

one_beyond : (s : ℕ) (x y : ℤ) (k : ℕ) (g : List ℕ) (p : ℕ) → s * s ≤ p → get_or (plot_one s x y k g) p 0 ≡ get_or g p 0
one_beyond s x y k g p h = elim (ℕ_discrete p (place_at s x y)) [
  | yes e ↦ ap (λ (q : List ℕ). get_or q p 0) (sym (plot_out s x y k g p e h))
  | no n ↦ one_other s x y k g p n
]

-- all of them
module _ (s : ℕ) where
  pub all_length : (ps : List Plot) (g : List ℕ) → length (plot_all s ps g) ≡ length g
  unfolding plot_all
  all_length [] g = refl
  all_length (plot x y k ∷ ps) g = all_length ps (plot_one s x y k g) ∙ one_length s x y k g

  pub all_beyond : (ps : List Plot) (g : List ℕ) (p : ℕ) → s * s ≤ p → get_or (plot_all s ps g) p 0 ≡ get_or g p 0
  unfolding plot_all
  all_beyond [] g p h = refl
  all_beyond (plot x y k ∷ ps) g p h = all_beyond ps (plot_one s x y k g) p h ∙ one_beyond s x y k g p h

  pub all_at : (ps : List Plot) (g : List ℕ) (p : ℕ) → p < s * s → s * s ≤ length g → get_or (plot_all s ps g) p 0 ≡ drawn (get_or g p 0) (first s ps p)
  unfolding plot_all first
  all_at [] g p h l = sym (drawn_zero (get_or g p 0))
  all_at (plot x y k ∷ ps) g p h l =
      all_at ps (plot_one s x y k g) p h (omega (arith, one_length s x y k g))
      ∙ ap (λ (a : ℕ). drawn a (first s ps p)) (one_at s x y k g p h l)
      ∙ drawn_assoc (get_or g p 0) (hit s x y k p) (first s ps p)

  first_append : (ps qs : List Plot) (p : ℕ) → first s (ps ++ qs) p ≡ drawn (first s ps p) (first s qs p)
  unfolding first
  first_append [] qs p = sym (drawn_data (first s qs p) refl)
  first_append (plot x y k ∷ ps) qs p = ap (drawn (hit s x y k p)) (first_append ps qs p) ∙ sym (drawn_assoc (hit s x y k p) (first s ps p) (first s qs p))

  -- plots in turn: none of a place, and those of turn i alone
  pub each_none : (f : ℕ → List Plot) (p n : ℕ) → ((j : ℕ) → j < n → first s (f j) p ≡ 0) → first s (each n f) p ≡ 0
  unfolding each first
  each_none f p zero h = refl
  each_none f p (suc n) h = first_append (each n f) (f n) p ∙ drawn_data (first s (f n) p) (each_none f p n (λ j l. h j (omega arith))) ∙ h n (omega arith)

  pub each_one : (f : ℕ → List Plot) (p k i n : ℕ) → i < n → (k ≡ 0 → ⊥) → first s (f i) p ≡ k → ((j : ℕ) → j < n → (j ≡ i → ⊥) → first s (f j) p ≡ 0)
      → first s (each n f) p ≡ k
  unfolding each
  each_one f p k i zero l z e h = absurd (omega arith)
  each_one f p k i (suc n) l z e h = first_append (each n f) (f n) p ∙ elim (ℕ_discrete n i) [
    | yes d ↦ drawn_data (first s (f n) p) (each_none f p n (λ j m. h j (omega arith) (λ q. omega arith))) ∙ ap (λ (j : ℕ). first s (f j) p) d ∙ e
    | no d ↦ ap (drawn (first s (each n f) p)) (h n (omega arith) d) ∙ drawn_zero (first s (each n f) p)
        ∙ each_one f p k i n (omega arith) z e (λ j m. h j (omega arith))
  ]

  -- the dark and the light module of a line
  module _ (x y : ℤ) (p : ℕ) where
    pub module_dark : place_at s x y ≡ p → first s (line_module x y) p ≡ 3
    unfolding line_module first
    module_dark e = ap (λ (a : ℕ). drawn a (first s (plot (x -ℤ pos 1) (y +ℤ pos 1) 2 ∷ []) p)) (hit_on s x y 3 p e) ∙ drawn_kept _ (λ z. omega arith)

    pub module_light : (place_at s x y ≡ p → ⊥) → place_at s (x -ℤ pos 1) (y +ℤ pos 1) ≡ p → first s (line_module x y) p ≡ 2
    unfolding line_module first
    module_light n e =
        drawn_data (first s (plot (x -ℤ pos 1) (y +ℤ pos 1) 2 ∷ []) p) (hit_off s x y 3 p n) ∙ drawn_zero _ ∙ hit_on s (x -ℤ pos 1) (y +ℤ pos 1) 2 p e

    pub module_off : (place_at s x y ≡ p → ⊥) → (place_at s (x -ℤ pos 1) (y +ℤ pos 1) ≡ p → ⊥) → first s (line_module x y) p ≡ 0
    unfolding line_module first
    module_off n m =
        drawn_data (first s (plot (x -ℤ pos 1) (y +ℤ pos 1) 2 ∷ []) p) (hit_off s x y 3 p n) ∙ drawn_zero _ ∙ hit_off s (x -ℤ pos 1) (y +ℤ pos 1) 2 p m
