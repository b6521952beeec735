-- The rows of the corners, stretch by stretch.
use Rattle.general.proofs.Names.{◌≡◌, refl, sym, ap, ◌∙◌, cond, List, [], ℕ, suc, ◌+◌, ◌-◌, ◌*◌, ◌/◌, ◌%◌, ◌^◌, ◌<◌, ◌≤◌, arith, mul-le-mul_right}
use Rattle.general.proofs.Names.{mul-div-mul_left, pow-succ', suc-mul, zero-div, le-div_iff_mul-le, div-lt_iff_lt-mul, dec_lt, add-one, T, ltb, ltb→lt, lit<}
use Rattle.general.proofs.Names.{length, get_or, set, length-set, lt-ltb, le-ltb, ne_eqb}
use lib.Arith.{digits_div, digits_mod}
use Rattle.symbol.specs.Layout.{finders, edge, ring, half, within, finder_row, finder_at, corner_at}
use Rattle.symbol.specs.Inner.{Stored, RowRoom, Ends, UpTo, Beyond, corner_kind}
use Rattle.symbol.proofs.Coordinates.{square_le}
use Rattle.general.proofs.Finite.{up_to, every}
use Rattle.symbol.proofs.Stored.{stored_none, stored_next, stored_more, stored_as}

-- a row of a finder has seven bits: a test that antt computes
rows_small : T (up_to (λ n. ltb (get_or (get_or finders (n / 7) []) (n % 7) 0) 128) 28)
unfolding finders
rows_small = tt

pub row_small : (corner row : ℕ) → corner < 4 → row < 7 → get_or (get_or finders corner []) row 0 < 128
row_small corner row h g =
    let p : (7 * corner + row) / 7 ≡ corner = omega arith in
    let q : (7 * corner + row) % 7 ≡ row = omega arith in
    let t : get_or (get_or finders ((7 * corner + row) / 7) []) ((7 * corner + row) % 7) 0 < 128 =
    ltb→lt _ _ (every (λ n. ltb (get_or (get_or finders (n / 7) []) (n % 7) 0) 128) 28 rows_small (7 * corner + row) (omega arith)) in
    rw (p, q) at t

-- by the test a < b
by_lt : (P : ℕ → Type 0) (a b x y : ℕ) → (a < b → P x) → (b ≤ a → P y) → P (cond (ltb a b) x y)
by_lt P a b x y f g = elim (dec_lt a b) [ yes h ↦ rw (lt-ltb a b h) (f h) | no h ↦ rw (le-ltb a b (omega arith)) (g (omega arith)) ]

pub edge_near : (s i : ℕ) → i < s - 1 - i → edge s i ≡ i
unfolding edge
edge_near s i h = simp (lt-ltb i (s - 1 - i) h)

pub edge_far : (s i : ℕ) → s - 1 - i ≤ i → edge s i ≡ s - 1 - i
unfolding edge
edge_far s i h = simp (le-ltb i (s - 1 - i) h)

-- where a row or column lies that is within a bound of an edge
pub edge_low : (s i b : ℕ) → edge s i < b → b ≤ i → s - b ≤ i
unfolding edge
edge_low s i b = by_lt (λ (e : ℕ). e < b → b ≤ i → s - b ≤ i) i (s - 1 - i) i (s - 1 - i) (λ l h g. omega arith) (λ l h g. omega arith)

pub edge_mid : (s i b : ℕ) → b ≤ i → i + b < s → b ≤ edge s i
unfolding edge
edge_mid s i b h g = by_lt (λ (e : ℕ). b ≤ e) i (s - 1 - i) i (s - 1 - i) (λ l. h) (λ l. omega arith)

pub edge_top : (s i : ℕ) → edge s i ≤ i
unfolding edge
edge_top s i = by_lt (λ (e : ℕ). e ≤ i) i (s - 1 - i) i (s - 1 - i) (λ l. omega arith) (λ l. l)

pub edge_bottom : (s i : ℕ) → edge s i ≤ s - 1 - i
unfolding edge
edge_bottom s i = by_lt (λ (e : ℕ). e ≤ s - 1 - i) i (s - 1 - i) i (s - 1 - i) (λ l. omega arith) (λ l. omega arith)

-- the row byte of a finder above and below
pub upper_row : (s side r : ℕ) → r < 7 → finder_row s side r ≡ get_or (get_or finders (2 * side) []) r 0
unfolding finder_row half within
upper_row s side r h = let e : 0 + 2 * side ≡ 2 * side = omega arith in simp (lt-ltb r 7 h) (ap (λ (n : ℕ). get_or (get_or finders n []) r 0) e)

pub lower_row : (s side r : ℕ) → 7 ≤ r → finder_row s side r ≡ get_or (get_or finders (1 + 2 * side) []) (r - (s - 7)) 0
unfolding finder_row half within
lower_row s side r h = simp (le-ltb r 7 h)

-- the kinds by the distances of row and column
module _ (s r c : ℕ) where
  ring_max : (P : ℕ → Type 0) → (edge s r < edge s c → P (edge s c)) → (edge s c ≤ edge s r → P (edge s r)) → P (ring s r c)
  unfolding ring
  ring_max P f g = by_lt P (edge s r) (edge s c) (edge s c) (edge s r) f g

  pub in_finder : edge s r < 7 → edge s c < 7 → corner_at s r c ≡ finder_at s r c
  unfolding corner_at
  in_finder a b = let h : ring s r c < 7 = ring_max (λ (n : ℕ). n < 7) (λ l. b) (λ l. a) in simp (lt-ltb (ring s r c) 7 h)

  ring_is : (n : ℕ) → edge s r ≤ n → edge s c ≤ n → (edge s r < n → edge s c ≡ n) → ring s r c ≡ n
  ring_is n a b k =
      ring_max (λ (m : ℕ). m ≡ n) (λ l. k (omega arith)) (λ l. elim (dec_lt (edge s r) n)
      [ yes h ↦ (let z = k h in omega arith) | no h ↦ omega arith ])

  pub in_separator : edge s r ≤ 7 → edge s c ≤ 7 → (edge s r < 7 → edge s c ≡ 7) → corner_at s r c ≡ 2
  unfolding corner_at
  in_separator a b k = let h : ring s r c ≡ 7 = ring_is 7 a b k in rw h

  pub in_information : edge s r ≤ 8 → edge s c ≤ 8 → (edge s r < 8 → edge s c ≡ 8) → corner_at s r c ≡ 1
  unfolding corner_at
  in_information a b k = let h : ring s r c ≡ 8 = ring_is 8 a b k in rw h

  wide_ring : (n : ℕ) → n ≡ ring s r c → 9 ≤ n → corner_at s r c ≡ 0
  unfolding corner_at
  wide_ring n e h = rw (← e) (simp (le-ltb n 7 (omega arith), ne_eqb n 7 (λ z. omega arith), ne_eqb n 8 (λ z. omega arith)))

  pub in_data_row : 9 ≤ edge s r → corner_at s r c ≡ 0
  in_data_row h = wide_ring (ring s r c) refl (ring_max (λ (n : ℕ). 9 ≤ n) (λ l. omega arith) (λ l. h))

  pub in_data_column : 9 ≤ edge s c → corner_at s r c ≡ 0
  in_data_column h = wide_ring (ring s r c) refl (ring_max (λ (n : ℕ). 9 ≤ n) (λ l. h) (λ l. omega arith))

-- the kind at a column of a row
pub row_kind : (s r c : ℕ) → c < s → corner_kind s (r * s + c) ≡ corner_at s r c
row_kind s r c h = ap (λ (k : ℕ). corner_at s k ((r * s + c) % s)) (digits_div r h) ∙ ap (corner_at s r) (digits_mod r h)

-- a stretch of a row from its place on
pub along : (s r : ℕ) (f : ℕ → ℕ) {from to : ℕ} → r * s ≤ from → to ≤ r * s + s → ((c : ℕ) → from ≤ r * s + c → r * s + c < to → f (r * s + c) ≡ corner_at s r c)
    → (i : ℕ) → from ≤ i → i < to → f i ≡ corner_kind s i
along s r f {from} {to} a b k i h g =
    let e : r * s + (i - r * s) ≡ i = omega arith in
    rw e at (k (i - r * s) (omega arith) (omega arith) ∙ sym (row_kind s r (i - r * s) (omega arith)))

pub row_end : (s r : ℕ) → r < s → r * s + s ≤ s * s
row_end s r h = rw suc-mul at (mul-le-mul_right s h)

pub row_room : {s r : ℕ} {g : List ℕ} → 23 ≤ s → s ≤ 189 → s * s ≤ length g → r < s → RowRoom s r g
row_room {s} {r} a b e h =
    record { big = a; small = b; inside = h; room = omega (arith, row_end s r h); fits = omega (arith, row_end s r h, square_le s b) }

module _ (s r : ℕ) (big : 23 ≤ s) (in_row : r < s) where
  pub data_column : (c : ℕ) → 9 ≤ c → c + 9 < s → corner_at s r c ≡ 0
  data_column c h g = in_data_column s r c (edge_mid s c 9 h g)

  -- in the row of the information arms
  module _ (arm : edge s r ≡ 8) where
    pub arm_left : (c : ℕ) → c < 9 → corner_at s r c ≡ 1
    arm_left c h = in_information s r c (omega arith) (omega (arith, edge_near s c (omega arith))) (λ z. absurd (omega arith))

    pub arm_right : (c : ℕ) → s ≤ c + 9 → c < s → corner_at s r c ≡ 1
    arm_right c h g = in_information s r c (omega arith) (omega (arith, edge_far s c (omega arith))) (λ z. absurd (omega arith))

  -- in a row of the finders and their separators: the modules of a row byte
  module _ (near : edge s r < 8) where
    pub left_information : corner_at s r 8 ≡ 1
    left_information = let d = edge_near s 8 (omega arith) in in_information s r 8 (omega arith) (omega arith) (λ z. d)

    pub right_information : corner_at s r (s - 9) ≡ 1
    right_information =
        let d : edge s (s - 9) ≡ 8 = omega (arith, edge_far s (s - 9) (omega arith)) in
        in_information s r (s - 9) (omega arith) (omega arith) (λ z. d)

    -- a row byte of a finder, or 0 in the row of the separators
    module _ (bits side : ℕ) (small : bits < 128) (row : edge s r < 7 → bits ≡ finder_row s side r) (none : edge s r ≡ 7 → bits ≡ 0) where
      separator_row : (c n : ℕ) → edge s c ≤ 7 → edge s r ≡ 7 → (b : ℕ) → b ≡ 0 → 2 + b / n % 2 ≡ corner_at s r c
      separator_row c n h e b z = rw (z, zero-div n) (sym (in_separator s r c (omega arith) h (λ l. absurd (omega arith))))

      pub left_modules : side ≡ 0 → (c : ℕ) → c < 8 → 2 + 2 * bits / 2 ^ (7 - c) % 2 ≡ corner_at s r c
      unfolding finder_at half within
      left_modules z c h = elim (dec_lt (edge s r) 7) [
        | yes l ↦ elim (dec_lt c 7) [ yes k ↦ finder l k | no k ↦ last l (omega arith) ]
        | no l ↦ (let e : edge s r ≡ 7 = omega arith in separator_row c (2 ^ (7 - c)) (omega (arith, d)) e (2 * bits) (omega (arith, none e)))
      ]
        where
          d : edge s c ≡ c
          d = edge_near s c (omega arith)

          last : edge s r < 7 → c ≡ 7 → 2 + 2 * bits / 2 ^ (7 - c) % 2 ≡ corner_at s r c
          last l k =
              let e : 7 - c ≡ 0 = omega arith in
              let q : 2 + 2 * bits / 1 % 2 ≡ 2 = omega arith in
              ap (λ (n : ℕ). 2 + 2 * bits / 2 ^ n % 2) e ∙ q ∙ sym (in_separator s r c (omega arith) (omega (arith, d)) (λ w. omega (arith, d)))

          finder : edge s r < 7 → c < 7 → 2 + 2 * bits / 2 ^ (7 - c) % 2 ≡ corner_at s r c
          finder l k =
              let e : 7 - c ≡ suc (6 - c) = omega arith in
              rw (e, pow-succ' 2 (6 - c), mul-div-mul_left bits (2 ^ (6 - c)) (lit< tt), row l, z)
              (sym (in_finder s r c l (omega (arith, d)) ∙ simp (lt-ltb c 7 k)))

      pub right_modules : side ≡ 1 → (c k : ℕ) → c ≡ s - 8 + k → k < 8 → 2 + bits / 2 ^ (7 - k) % 2 ≡ corner_at s r c
      unfolding finder_at half within
      right_modules z c k f h = elim (dec_lt (edge s r) 7) [
        | yes l ↦ elim (dec_lt 0 k) [ yes i ↦ finder l i | no i ↦ first l (omega arith) ]
        | no l ↦ (let e : edge s r ≡ 7 = omega arith in separator_row c (2 ^ (7 - k)) (omega (arith, d)) e bits (none e))
      ]
        where
          d : edge s c ≡ 7 - k
          d = omega (arith, edge_far s c (omega arith))

          first : edge s r < 7 → k ≡ 0 → 2 + bits / 2 ^ (7 - k) % 2 ≡ corner_at s r c
          first l e =
              let q : 2 + bits / 128 % 2 ≡ 2 = omega arith in
              ap (λ (n : ℕ). 2 + bits / 2 ^ (7 - n) % 2) e ∙ q ∙ sym (in_separator s r c (omega arith) (omega (arith, d)) (λ w. omega (arith, d)))

          finder : edge s r < 7 → 0 < k → 2 + bits / 2 ^ (7 - k) % 2 ≡ corner_at s r c
          finder l i =
              let e : 6 - (c - (s - 7)) ≡ 7 - k = omega arith in
              rw (row l, z, ← e) (sym (in_finder s r c l (omega (arith, d)) ∙ simp (le-ltb c 7 (omega arith))))

-- a row of the corners from its ends
module _ (s r : ℕ) (big : 23 ≤ s) (in_row : r < s) where
  -- two stretches of nine
  two_ends : {m n k : ℕ} {g g₁ g₂ : List ℕ} → m ≡ r * s + 9 → n + 9 ≡ r * s + s → k ≡ r * s + s → Stored (corner_kind s) (r * s) m g g₁
      → Stored (corner_kind s) n k g₁ g₂
      → Ends (corner_kind s) (r * s) (r * s + s) g g₂
  two_ends d e f a b =
      record {
        size = b.size ∙ a.size;
        left = λ i h k. b.before i (omega arith) ∙ a.here i h (omega arith);
        right = λ i h k. b.here i (omega arith) (omega arith);
        middle = λ i h k. b.before i (omega arith) ∙ a.after i (omega arith);
        before = λ i h. b.before i (omega arith) ∙ a.before i h;
        after = λ i h. b.after i (omega arith) ∙ a.after i (omega arith);
      }

  pub finder_row_lem : (left right : ℕ) → edge s r < 8
      → (left < 128) × ((edge s r < 7 → left ≡ finder_row s 0 r) × (edge s r ≡ 7 → left ≡ 0))
      → (right < 128) × ((edge s r < 7 → right ≡ finder_row s 1 r) × (edge s r ≡ 7 → right ≡ 0))
      → {g g₁ g₂ : List ℕ} → r * s + s ≤ length g
      → Stored (λ i. 2 + 2 * left / 2 ^ (7 - (i - r * s)) % 2) (r * s) (r * s + 8) g g₁
      → Stored (λ i. 2 + right / 2 ^ (7 - (i - (r * s + s - 8))) % 2) (r * s + s - 8) (r * s + s - 8 + 8)
      (set (set g₁ (r * s + 8) 1) (r * s + s - 9) 1) g₂
      → Ends (corner_kind s) (r * s) (r * s + s) g g₂
  finder_row_lem left right near l q {g} {g₁} {g₂} room a b =
      two_ends (let z : r * s + 8 + 1 ≡ r * s + 9 = omega arith in z) (let z : r * s + s - 9 + 9 ≡ r * s + s = omega arith in z)
      (let z : r * s + s - 8 + 8 ≡ r * s + s = omega arith in z)
      (stored_more (omega arith) (omega arith) (sym (row_kind s r 8 (omega arith) ∙ left_information s r big in_row near))
      (stored_as (corner_kind s) (along s r (λ i. 2 + 2 * left / 2 ^ (7 - (i - r * s)) % 2) (omega arith) (omega arith) lefts) a))
      (stored_next (omega arith) (omega arith) middle
      (stored_as (corner_kind s) (along s r (λ i. 2 + right / 2 ^ (7 - (i - (r * s + s - 8))) % 2) (omega arith) (omega arith) rights) b))
    where
      middle : Stored (corner_kind s) (r * s + s - 9) (r * s + s - 8) (set g₁ (r * s + 8) 1) (set (set g₁ (r * s + 8) 1) (r * s + s - 9) 1)
      middle =
          let z : r * s + s - 9 + 1 ≡ r * s + s - 8 = omega arith in
          let e : r * s + (s - 9) ≡ r * s + s - 9 = omega arith in
          let k : 1 ≡ corner_kind s (r * s + s - 9) = sym (ap (corner_kind s) (sym e) ∙ row_kind s r (s - 9) (omega arith)
          ∙ right_information s r big in_row near) in
          rw z at (stored_more {from = r * s + s - 9} (omega arith) (omega (arith, length-set g₁ (r * s + 8) 1)) k
          (stored_none (corner_kind s) (r * s + s - 9) (set g₁ (r * s + 8) 1)))

      lefts : (k : ℕ) → r * s ≤ r * s + k → r * s + k < r * s + 8 → 2 + 2 * left / 2 ^ (7 - (r * s + k - r * s)) % 2 ≡ corner_at s r k
      lefts k h j =
          let z : r * s + k - r * s ≡ k = omega arith in
          ap (λ (n : ℕ). 2 + 2 * left / 2 ^ (7 - n) % 2) z ∙ left_modules s r big in_row near left 0 l.0 l.1.0 l.1.1 refl k (omega arith)

      rights : (k : ℕ) → r * s + s - 8 ≤ r * s + k → r * s + k < r * s + s - 8 + 8
          → 2 + right / 2 ^ (7 - (r * s + k - (r * s + s - 8))) % 2 ≡ corner_at s r k
      rights k h j = right_modules s r big in_row near right 1 q.0 q.1.0 q.1.1 refl k (r * s + k - (r * s + s - 8)) (omega arith) (omega arith)

  pub information_row : edge s r ≡ 8 → {g g₁ g₂ : List ℕ} → Stored (λ i. 1) (r * s) (r * s + 9) g g₁ → Stored (λ i. 1) (r * s + s - 9) (r * s + s) g₁ g₂
      → Ends (corner_kind s) (r * s) (r * s + s) g g₂
  information_row arm a b =
      two_ends refl (let z : r * s + s - 9 + 9 ≡ r * s + s = omega arith in z) refl
      (stored_as (corner_kind s) (along s r (λ i. 1) (omega arith) (omega arith) (λ k h j. sym
      (arm_left s r big in_row arm k (omega arith)))) a)
      (stored_as (corner_kind s) (along s r (λ i. 1) (omega arith) (omega arith) (λ k h j. sym (arm_right s r big in_row arm k (omega arith) (omega arith)))) b)

  -- the places between the ends of a row are data
  row_done : {g g' : List ℕ} → UpTo (corner_kind s) (s * s) (r * s) g → Ends (corner_kind s) (r * s) (r * s + s) g g'
      → UpTo (corner_kind s) (s * s) (r * s + s) g'
  row_done {g} {g'} u e =
      record {
        done = λ i h. elim (dec_lt i (r * s)) [
          | yes l ↦ e.before i l ∙ u.done i l
          | no l ↦ elim (dec_lt i (r * s + 9)) [
            | yes k ↦ e.left i (omega arith) k
            | no k ↦ elim (dec_lt (i + 9) (r * s + s)) [
              | yes j ↦ e.middle i (omega arith) j ∙ u.blank i (omega arith) (omega (arith, row_end s r in_row))
                  ∙ along s r (λ n. 0) {from = r * s + 9} {to = r * s + s - 9} (omega arith) (omega arith)
                  (λ c p q. sym (data_column s r big in_row c (omega arith) (omega arith))) i (omega arith) (omega arith)
              | no j ↦ e.right i (omega arith) h
            ]
          ]
        ];
        blank = λ i h k. e.after i h ∙ u.blank i (omega arith) k;
      }

  pub row_more : {g₀ g g' : List ℕ} → UpTo (corner_kind s) (s * s) (r * s) g × Beyond (s * s) g₀ g
      → Ends (corner_kind s) (r * s) (r * s + s) g g'
      → UpTo (corner_kind s) (s * s) ((r + 1) * s) g' × Beyond (s * s) g₀ g'
  row_more {g₀} {g} {g'} u e = (
    rw (add-one r, suc-mul) (row_done u.0 e),
    record { size = e.size ∙ u.1.size; after = λ i h. e.after i (omega (arith, row_end s r in_row)) ∙ u.1.after i h },
  )

-- rows 9 to s − 10 are data
data_rows : (s : ℕ) → 23 ≤ s → {g : List ℕ} → UpTo (corner_kind s) (s * s) (9 * s) g → UpTo (corner_kind s) (s * s) ((s - 9) * s) g
data_rows s big {g} u =
    record {
      done = λ i h. elim (dec_lt i (9 * s)) [
        | yes l ↦ u.done i l
        | no l ↦ (let low : 9 ≤ i / s = (le-div_iff_mul-le {k = s} {x = 9} {y = i} (omega arith)).1 (omega arith) in
            let high : i / s < s - 9 = (div-lt_iff_lt-mul {k = s} {x = i} {y = s - 9} (omega arith)).1 h in
            u.blank i (omega arith) (omega (arith, mul-le-mul_right s (let z : s - 9 ≤ s = omega arith in z)))
            ∙ sym (in_data_row s (i / s) (i % s) (edge_mid s (i / s) 9 low (omega arith))))
      ];
      blank = λ i h k. u.blank i (omega (arith, mul-le-mul_right s (let z : 9 ≤ s - 9 = omega arith in z))) k;
    }

-- the rows of the information arms, and those between them
pub upper_arm : (s : ℕ) → 23 ≤ s → edge s 8 ≡ 8
upper_arm s big = edge_near s 8 (omega arith)

pub lower_arm : (s : ℕ) → 23 ≤ s → edge s (s - 9) ≡ 8
lower_arm s big = edge_far s (s - 9) (omega arith) ∙ (let e : s - 1 - (s - 9) ≡ 8 = omega arith in e)

pub middle_rows : (s : ℕ) → 23 ≤ s → {g₁ g₂ g₃ g₄ : List ℕ} → UpTo (corner_kind s) (s * s) (8 * s) g₂ × Beyond (s * s) g₁ g₂
    → Ends (corner_kind s) (8 * s) (8 * s + s) g₂ g₃ → Ends (corner_kind s) ((s - 9) * s) ((s - 9) * s + s) g₃ g₄
    → UpTo (corner_kind s) (s * s) ((s - 8) * s) g₄ × Beyond (s * s) g₁ g₄
middle_rows s big {g₁} {g₂} {g₃} {g₄} u a b =
    let p = row_more s 8 big (omega arith) u a in
    let q = row_more s (s - 9) big (omega arith) (data_rows s big p.0, p.1) b in
    let e : s - 9 + 1 ≡ s - 8 = omega arith in
    (rw e at q.0, q.1)

pub all_blank : (f : ℕ → ℕ) (n m : ℕ) {g g' : List ℕ} → m ≡ 0 → Stored (λ i. 0) 0 n g g' → UpTo f n m g'
all_blank f n m e s = record { done = λ i h. absurd (omega arith); blank = λ i h k. s.here i (omega arith) k }

pub near_upper : (s : ℕ) → (r : ℕ) → 0 ≤ r → r < 9 → edge s r < 9
near_upper s r h k = omega (arith, edge_top s r)

pub near_lower : (s : ℕ) → (r : ℕ) → s - 9 ≤ r → r < s → edge s r < 9
near_lower s r h k = omega (arith, edge_bottom s r)

pub beyond_none : {n : ℕ} {g : List ℕ} → Beyond n g g
beyond_none = record { size = refl; after = λ i h. refl }

pub corners_stored : {f : ℕ → ℕ} {n : ℕ} {g g₁ g₂ g₃ : List ℕ} → Stored (λ i. 0) 0 n g g₁ → Beyond n g₁ g₂ → Beyond n g₂ g₃ → UpTo f n n g₃ → Stored f 0 n g g₃
corners_stored a b c u =
    record {
      size = c.size ∙ b.size ∙ a.size;
      here = λ i h k. u.done i k;
      before = λ i h. absurd (omega arith);
      after = λ i h. c.after i h ∙ b.after i h ∙ a.after i h;
    }
