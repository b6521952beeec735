-- A line to the left is two runs: plots of dark and light modules in turn, and the dark ones before the light ones, come to the same.
use Rattle.general.proofs.Names.{◌≡◌, sym, ap, ◌∙◌, List, ℕ, ◌+◌, ◌-◌, ◌*◌, ◌<◌, ◌≤◌, dec_lt, add-one, suc-mul, arith, length, get_or, ext_get_or}
use lib.Arith.{digits_lt}
use lib.IntN.{ℤ, pos, ◌+ℤ◌, ◌-ℤ◌}
use Rattle.symbol.specs.Layout.{Plot, place_at, plot_all, line_module, line_left}
use Rattle.symbol.specs.Inner.{Stored, Plotted, drawn}
use Rattle.symbol.proofs.Coordinates.{square_le, place_left, place_below, whole_in, take_off, difference, negative}
use Rattle.symbol.proofs.FirstPlot.{first, all_length, all_beyond, all_at, each_none, each_one, module_dark, module_light, module_off, drawn_zero}
use Rattle.general.specs.Lists.{each}

module _ (s c r : ℕ) (ci : c < s) (ri : r < s) where
  next_row : (r + 1) * s ≡ r * s + s
  next_row = omega (arith, ap (λ (n : ℕ). n * s) (add-one r), suc-mul r s)

  in_square : r * s + c < s * s
  in_square = digits_lt ri ci

  -- the light run lies in the next row, if there is one
  pub room_below : r + 1 < s → r * s + c + s < s * s
  room_below h = omega (arith, digits_lt h ci)

  pub record Here (n : ℕ) : Type 0 where
    pub room : r * s + c < n
    pub fits : r * s + c < 35721
    pub below : r + 1 < s → (r * s + c + s < n) × (r * s + c + s < 35721)

  -- where a line begins, in a square that n bytes have room for
  pub here : (n : ℕ) → s ≤ 189 → s * s ≤ n → Here n
  here n small room =
      let q = square_le s small in
      record { room = omega (arith, in_square); fits = omega (arith, in_square); below = λ h. let l = room_below h in (omega arith, omega arith) }

  -- the dark module of turn j
  dark_in : (j : ℕ) → j ≤ c → place_at s (pos c -ℤ pos j) (pos r) ≡ r * s + (c - j)
  dark_in j h = ap (λ (z : ℤ). place_at s z (pos r)) (difference c j h) ∙ whole_in s (c - j) r (omega arith) ri

  dark_out : (j : ℕ) → c < j → place_at s (pos c -ℤ pos j) (pos r) ≡ s * s
  dark_out j h = sym (place_left s (pos c -ℤ pos j) (pos r) (negative c j h))

  -- the light module of turn j
  light_in : (j : ℕ) → j + 1 ≤ c → r + 1 < s → place_at s (pos c -ℤ pos j -ℤ pos 1) (pos r +ℤ pos 1) ≡ r * s + s + (c - (j + 1))
  light_in j h k =
      ap (λ (z : ℤ). place_at s z (pos (r + 1))) (take_off c j 1 ∙ difference c (j + 1) h) ∙ whole_in s (c - (j + 1)) (r + 1) (omega arith) k
      ∙ ap (λ (n : ℕ). n + (c - (j + 1))) next_row

  light_left : (j : ℕ) → c < j + 1 → place_at s (pos c -ℤ pos j -ℤ pos 1) (pos r +ℤ pos 1) ≡ s * s
  light_left j h = ap (λ (z : ℤ). place_at s z (pos (r + 1))) (take_off c j 1) ∙ sym (place_left s (pos c -ℤ pos (j + 1)) (pos (r + 1)) (negative c (j + 1) h))

  light_below : (j : ℕ) → j + 1 ≤ c → s ≤ r + 1 → place_at s (pos c -ℤ pos j -ℤ pos 1) (pos r +ℤ pos 1) ≡ s * s
  light_below j h k =
      ap (λ (z : ℤ). place_at s z (pos (r + 1))) (take_off c j 1 ∙ difference c (j + 1) h)
      ∙ sym (place_below s (pos (c - (j + 1))) (pos (r + 1)) (let e : c - (j + 1) < s = omega arith in e) k)

  module _ (p : ℕ) (h : p < s * s) where
    -- turn j meets place p with its dark module, or with its light one
    dark_is : (j : ℕ) → place_at s (pos c -ℤ pos j) (pos r) ≡ p → (j ≤ c) × (p + j ≡ r * s + c)
    dark_is j e = elim (dec_lt c j) [
      | yes l ↦ absurd (omega (arith, dark_out j l))
      | no l ↦ (omega arith, let k : j ≤ c = omega arith in omega (arith, dark_in j k))
    ]

    light_is : (j : ℕ) → place_at s (pos c -ℤ pos j -ℤ pos 1) (pos r +ℤ pos 1) ≡ p → (j + 1 ≤ c) × (r + 1 < s) × (p + (j + 1) ≡ r * s + c + s)
    light_is j e = elim (dec_lt c (j + 1)) [
      | yes l ↦ absurd (omega (arith, light_left j l))
      | no l ↦ elim (dec_lt (r + 1) s) [
        | yes k ↦ (omega arith, k, let q : j + 1 ≤ c = omega arith in omega (arith, light_in j q k))
        | no k ↦ absurd (let q : j + 1 ≤ c = omega arith in let m : s ≤ r + 1 = omega arith in omega (arith, light_below j q m))
      ]
    ]

    module _ (w : ℕ) where
      abbrev line : ℕ → List Plot
      line j = line_module (pos c -ℤ pos j) (pos r)

      -- a place of the dark run, one of the light run, and any other
      dark_first : (i : ℕ) → i ≤ w → i ≤ c → p + i ≡ r * s + c → first s (each (w + 1) line) p ≡ 3
      dark_first i a b e =
          each_one s line p 3 i (w + 1) (omega arith) (λ z. omega arith)
          (module_dark s (pos c -ℤ pos i) (pos r) p (dark_in i b ∙ (let q : r * s + (c - i) ≡ p = omega arith in q)))
          (λ j l n. module_off s (pos c -ℤ pos j) (pos r) p (λ d. let q : p + j ≡ r * s + c = (dark_is j d).1 in n (omega arith))
          (λ d. let q : p + (j + 1) ≡ r * s + c + s = (light_is j d).2 in let t : j + 1 ≤ c = (light_is j d).0 in omega arith))

      light_first : (i : ℕ) → i ≤ w → i + 1 ≤ c → r + 1 < s → p + (i + 1) ≡ r * s + c + s → first s (each (w + 1) line) p ≡ 2
      light_first i a b k e =
          each_one s line p 2 i (w + 1) (omega arith) (λ z. omega arith)
          (module_light s (pos c -ℤ pos i) (pos r) p (λ d. let q : p + i ≡ r * s + c = (dark_is i d).1 in omega arith)
          (light_in i b k ∙ (let q : r * s + s + (c - (i + 1)) ≡ p = omega arith in q)))
          (λ j l n. module_off s (pos c -ℤ pos j) (pos r) p (λ d. let q : p + j ≡ r * s + c = (dark_is j d).1 in omega arith)
          (λ d. let q : p + (j + 1) ≡ r * s + c + s = (light_is j d).2 in n (omega arith)))

      none_first : ((j : ℕ) → j ≤ w → j ≤ c → p + j ≡ r * s + c → ⊥) → ((j : ℕ) → j ≤ w → j + 1 ≤ c → r + 1 < s → p + (j + 1) ≡ r * s + c + s → ⊥)
          → first s (each (w + 1) line) p ≡ 0
      none_first d l =
          each_none s line p (w + 1)
          (λ j m. module_off s (pos c -ℤ pos j) (pos r) p (λ e. d j (omega arith) (dark_is j e).0 (dark_is j e).1)
          (λ e. l j (omega arith) (light_is j e).0 (light_is j e).1 (light_is j e).2))

  -- the dark run, and then a light run where the square has room for one
  pub two_runs : (w a lo hi : ℕ) {g g' g'' : List ℕ} → s * s ≤ length g → a ≤ w → a ≤ c → ((j : ℕ) → j ≤ w → j ≤ c → j ≤ a)
      → hi ≤ s * s
      → ((p : ℕ) → lo ≤ p → p < hi → (r * s + c + s ≤ p + (w + 1)) × (r * s + s ≤ p) × (p < r * s + c + s) × (r + 1 < s))
      → ((p j : ℕ) → j ≤ w → j + 1 ≤ c → r + 1 < s → p + (j + 1) ≡ r * s + c + s → (lo ≤ p) × (p < hi))
      → Stored (λ i. drawn (get_or g i 0) 3) (r * s + c - a) (r * s + c + 1) g g' → Stored (λ i. drawn (get_or g' i 0) 2) lo hi g' g''
      → Plotted s (line_left (pos c) (pos r) w) g g''
  unfolding line_left
  two_runs w a lo hi {g} {g'} {g''} room aw ac least-is hi-in on off d l =
      record { is = ext_get_or 0 g'' (plot_all s (line_left (pos c) (pos r) w) g) (l.size ∙ d.size ∙ sym (all_length s (line_left (pos c) (pos r) w) g)) same }
    where
      at : ℕ → ℕ
      at p = drawn (get_or g p 0) (first s (line_left (pos c) (pos r) w) p)

      -- a place beside the light run
      beside : (p : ℕ) → (lo ≤ p → p < hi → ⊥) → get_or g'' p 0 ≡ get_or g' p 0
      beside p n = elim (dec_lt p lo) [
        | yes m ↦ l.before p m
        | no m ↦ l.after p (elim (dec_lt p hi) [ yes k ↦ absurd (n (omega arith) k) | no k ↦ omega arith ])
      ]

      light_part : (p : ℕ) → p < s * s → lo ≤ p → p < hi → get_or g'' p 0 ≡ at p
      light_part p h m n =
          let o = on p m n in
          l.here p m n ∙ ap (λ (b : ℕ). drawn b 2) (d.after p (omega arith))
          ∙ sym (ap (drawn (get_or g p 0)) (light_first p h w (r * s + c + s - (p + 1)) (omega arith) (omega arith) o.3 (omega arith)))

      dark_part : (p : ℕ) → p < s * s → (lo ≤ p → p < hi → ⊥) → r * s + c ≤ p + a → p < r * s + c + 1 → get_or g'' p 0 ≡ at p
      dark_part p h n u v =
          beside p n ∙ d.here p (omega arith) v ∙ sym (ap (drawn (get_or g p 0)) (dark_first p h w (r * s + c - p) (omega arith) (omega arith) (omega arith)))

      other_part : (p : ℕ) → p < s * s → (lo ≤ p → p < hi → ⊥) → (r * s + c ≤ p + a → p < r * s + c + 1 → ⊥) → get_or g'' p 0 ≡ at p
      other_part p h n m =
          beside p n
          ∙ elim (dec_lt p (r * s + c - a)) [
            | yes k ↦ d.before p k
            | no k ↦ d.after p
                (elim (dec_lt p (r * s + c + 1)) [ yes q ↦ absurd (m (omega arith) q) | no q ↦ omega arith ])
          ]
          ∙ sym (ap (drawn (get_or g p 0))
          (none_first p h w (λ j x y e. m (omega (arith, least-is j x y)) (omega arith)) (λ j x y z e. n (off p j x y z e).0 (off p j x y z e).1))
          ∙ drawn_zero (get_or g p 0))

      inside : (p : ℕ) → p < s * s → get_or g'' p 0 ≡ at p
      inside p h = elim (dec_lt p hi) [
        | yes n ↦ elim (dec_lt p lo) [ yes m ↦ apart p h (λ x y. omega arith) | no m ↦ light_part p h (omega arith) n ]
        | no n ↦ apart p h (λ x y. omega arith)
      ]
        where
          apart : (p : ℕ) → p < s * s → (lo ≤ p → p < hi → ⊥) → get_or g'' p 0 ≡ at p
          apart p h n = elim (dec_lt (p + a) (r * s + c)) [
            | yes k ↦ other_part p h n (λ x y. omega arith)
            | no k ↦ elim (dec_lt p (r * s + c + 1)) [ yes q ↦ dark_part p h n (omega arith) q | no q ↦ other_part p h n (λ x y. omega arith) ]
          ]

      same : (p : ℕ) → p < length g'' → get_or g'' p 0 ≡ get_or (plot_all s (line_left (pos c) (pos r) w) g) p 0
      same p h = elim (dec_lt p (s * s)) [
        | yes k ↦ inside p k ∙ sym (all_at s (line_left (pos c) (pos r) w) g p k room)
        | no k ↦ l.after p (omega arith) ∙ d.after p (omega (arith, in_square)) ∙ sym (all_beyond s (line_left (pos c) (pos r) w) g p (omega arith))
      ]
