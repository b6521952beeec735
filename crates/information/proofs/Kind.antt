-- The 68 places are information modules of the layout.
use Rattle.general.proofs.Names.{◌≡◌, refl, sym, ap, ◌∙◌, Bool, true, false, cond, ℕ, ◌+◌, ◌-◌, ◌*◌, ◌<◌, ◌≤◌, arith, ltb, get_or, lt-ltb, le-ltb, ltb-false}
use Rattle.symbol.specs.Version.{side_of}
use Rattle.symbol.specs.Layout.{edge, ring, corner_at, layout_of}
use Rattle.symbol.proofs.Theorems.{corners_stay}
use Rattle.information.specs.Information.{position_row, position_column, info_position}
use Rattle.information.proofs.Distinct.{Arm, west, north, east, south, arm, row_lt, column_lt}

module _ (s : ℕ) (big : 23 ≤ s) where
  near : (i : ℕ) → i ≤ 8 → edge s i ≡ i
  unfolding edge
  near i h = simp (lt-ltb i (s - 1 - i) (omega arith))

  far : (i k : ℕ) → i + k + 1 ≡ s → k ≤ 8 → edge s i ≡ k
  unfolding edge
  far i k e h = simp (le-ltb i (s - 1 - i) (omega arith)) (omega arith)

  ring_row : (r c : ℕ) → edge s r ≡ 8 → edge s c ≤ 8 → ring s r c ≡ 8
  unfolding ring
  ring_row r c e h = simp (le-ltb (edge s r) (edge s c) (omega arith)) e

  ring_column : (r c : ℕ) → edge s r ≤ 8 → edge s c ≡ 8 → ring s r c ≡ 8
  unfolding ring
  ring_column r c h e = by (ltb (edge s r) (edge s c)) refl
    where
      by : (t : Bool) → ltb (edge s r) (edge s c) ≡ t → cond t (edge s c) (edge s r) ≡ 8
      by true f = e
      by false f = omega (arith, ltb-false (edge s r) (edge s c) f)

  -- in each arm the row or the column lies 8 from an edge
  first_ring : (n : ℕ) → n < 34 → ring s (position_row n) (position_column s n) ≡ 8
  first_ring n h = go (arm s n)
    where
      go : {r c : ℕ} → Arm s n r c → ring s r c ≡ 8
      go (west a) = ring_row 8 n (near 8 (omega arith)) (omega (arith, near n (omega arith)))
      go (north a b) = ring_column (16 - n) 8 (omega (arith, near (16 - n) (omega arith))) (near 8 (omega arith))
      go (east a b) = ring_column (n - 17) (s - 9) (omega (arith, near (n - 17) (omega arith))) (far (s - 9) 8 (omega arith) (omega arith))
      go (south a) = ring_row 8 (s - 9 + (n - 25)) (near 8 (omega arith)) (omega (arith, far (s - 9 + (n - 25)) (33 - n) (omega arith) (omega arith)))

  second_ring : (n : ℕ) → n < 34 → ring s (s - 1 - position_row n) (s - 1 - position_column s n) ≡ 8
  second_ring n h = go (arm s n)
    where
      go : {r c : ℕ} → Arm s n r c → ring s (s - 1 - r) (s - 1 - c) ≡ 8
      go (west a) =
          ring_row (s - 1 - 8) (s - 1 - n) (far (s - 1 - 8) 8 (omega arith) (omega arith)) (omega (arith, far (s - 1 - n) n (omega arith) (omega arith)))
      go (north a b) =
          ring_column (s - 1 - (16 - n)) (s - 1 - 8) (omega (arith, far (s - 1 - (16 - n)) (16 - n) (omega arith) (omega arith)))
          (far (s - 1 - 8) 8 (omega arith) (omega arith))
      go (east a b) =
          ring_column (s - 1 - (n - 17)) (s - 1 - (s - 9)) (omega (arith, far (s - 1 - (n - 17)) (n - 17) (omega arith) (omega arith)))
          (let e : s - 1 - (s - 9) ≡ 8 = omega arith in rw e (near 8 (omega arith)))
      go (south a) =
          ring_row (s - 1 - 8) (s - 1 - (s - 9 + (n - 25))) (far (s - 1 - 8) 8 (omega arith) (omega arith))
          (let e : s - 1 - (s - 9 + (n - 25)) ≡ 33 - n = omega arith in rw e (omega (arith, near (33 - n) (omega arith))))

  -- a place turned half round
  turned : (r c : ℕ) → r < s → c < s → s * s - 1 - (r * s + c) ≡ (s - 1 - r) * s + (s - 1 - c)
  turned r c h g =
      let a : (s - 1 - r + (r + 1)) * s ≡ s * s = ap (λ (k : ℕ). k * s) (let z : s - 1 - r + (r + 1) ≡ s = omega arith in z) in
      omega arith

one : (v r c : ℕ) → r < side_of v → c < side_of v → ring (side_of v) r c ≡ 8 → get_or (layout_of v) (r * side_of v + c) 0 ≡ 1
unfolding corner_at
one v r c a b e =
    let k : corner_at (side_of v) r c ≡ 1 = rw e in
    corners_stay v r c a b (λ z. let w : ◌≡◌ {A = ℕ} 1 0 = sym k ∙ z in omega arith) ∙ k

-- the kind of every place is information
pub info_kind : (v : ℕ) → 1 ≤ v → (b : Bool) (n : ℕ) → n < 34 → get_or (layout_of v) (info_position (side_of v) b n) 0 ≡ 1
unfolding info_position
info_kind v lo false n h =
    let big : 23 ≤ 2 * v + 21 = omega arith in
    one v (position_row n) (position_column (side_of v) n) (omega (arith, row_lt (side_of v) big n)) (column_lt (side_of v) big n h) (first_ring (side_of v) big n h)
info_kind v lo true n h =
    let big : 23 ≤ 2 * v + 21 = omega arith in
    rw (turned (side_of v) big (position_row n) (position_column (side_of v) n) (omega (arith, row_lt (side_of v) big n)) (column_lt (side_of v) big n h))
    (one v (side_of v - 1 - position_row n) (side_of v - 1 - position_column (side_of v) n) (omega arith) (omega arith) (second_ring (side_of v) big n h))
