-- Layouts with no alignment patterns.
use Rattle.general.proofs.Names.{◌≡◌, ap, sym, subst, ◌∙◌, ◌≢◌, ◌⊎◌, inl, inr, List, [], ℕ, ◌+◌, ◌-◌, ◌*◌, ◌<◌, ◌≤◌, arith, dec_lt, T, leb, leb→le, length}
use Rattle.general.proofs.Names.{get_or, lt-ltb}
use lib.Arith.{digits_lt}
use Rattle.symbol.specs.Version.{side_of}
use Rattle.symbol.specs.Layout.{finders, edge, ring, half, within, finder_row, finder_at, corner_at, corners, plot_all, layout_of}
use Rattle.symbol.specs.Inner.{corner_kind}
use Rattle.general.proofs.Finite.{up_to, every}
use Rattle.symbol.proofs.CornerRows.{edge_mid, in_finder, in_separator, in_information, in_data_row, in_data_column, row_kind, near_upper, near_lower}
use Rattle.symbol.proofs.Theorems.{layout_length}
use Rattle.block_table.specs.Table.{totals}
use Rattle.block_table.specs.Blocks.{total_of}
use Rattle.symbol.specs.Layout.{data_modules}
use Rattle.codewords.specs.Codewords.{mask_at, mask_bit}
use Rattle.placement.specs.Walk.{bits_from, row_bits, Walk}
use Rattle.small_marks.specs.Open.{Spans, Open, Margin, whole, ends}
use Rattle.placement.specs.declared.Run.{Run}
use Rattle.placement.proofs.Walk.{from_misses}
use Rattle.placement.proofs.Rows.{part, part_length, part_at, row_inside, row_mask, bits_none, row_turn}
use Rattle.general.specs.Lists.{each}
use Rattle.general.proofs.Lists.{get_or_table}

-- a finder, its separator and its information have no data
corner_kind_lem : (s r c : ℕ) → edge s r < 9 → edge s c < 9 → corner_at s r c ≢ 0
unfolding finder_at
corner_kind_lem s r c a b z = elim (dec_lt (edge s r) 8) [
  | yes p ↦ elim (dec_lt (edge s c) 8) [
    | yes q ↦ elim (dec_lt (edge s r) 7) [
      | yes x ↦ elim (dec_lt (edge s c) 7) [ yes y ↦ omega (arith, in_finder s r c x y, z) | no y ↦ separator (λ l. omega arith) p q ]
      | no x
          ↦ separator (λ l. absurd (omega arith)) p q
    ]
    | no q ↦ information (λ l. omega arith)
  ]
  | no p ↦ information (λ l. absurd (omega arith))
]
  where
    separator : (edge s r < 7 → edge s c ≡ 7) → edge s r < 8 → edge s c < 8 → ⊥
    separator k p q = omega (arith, in_separator s r c (omega arith) (omega arith) k, z)

    information : (edge s r < 8 → edge s c ≡ 8) → ⊥
    information k = omega (arith, in_information s r c (omega arith) (omega arith) k, z)

near_end : (s i : ℕ) → i < s → (i < 9) ⊎ (s ≤ i + 9) → edge s i < 9
near_end s i h (inl l) = near_upper s i (omega arith) l
near_end s i h (inr l) = near_lower s i (omega arith) h

-- nothing is plotted below version 4
open_kind : (v r c : ℕ) → v < 4 → r < side_of v → c < side_of v → get_or (layout_of v) (r * side_of v + c) 0 ≡ corner_at (side_of v) r c
unfolding layout_of plot_all corners
open_kind v r c h p q = simp (lt-ltb v 4 h) (get_or_table (side_of v * side_of v) (corner_kind (side_of v)) (r * side_of v + c) (digits_lt p q) ∙ row_kind (side_of v) r c q)

pub open_layout : (v : ℕ) → v ≤ 3 → Open (side_of v) (layout_of v)
open_layout v h = record {
  size = layout_length v;
  rows = λ r c lo hi q. open_kind v r c (omega arith) (omega arith) q ∙ in_data_row (side_of v) r c (edge_mid (side_of v) r 9 lo hi);
  columns = λ r c p lo hi. open_kind v r c (omega arith) p (omega arith) ∙ in_data_column (side_of v) r c (edge_mid (side_of v) c 9 lo hi);
  corners = λ r c p q a b z. corner_kind_lem (side_of v) r c (near_end (side_of v) r p a) (near_end (side_of v) c q b) (sym (open_kind v r c (omega arith) p q) ∙ z);
}

-- The versions 1 to 3 have data modules for all their codewords: a test that antt computes.
enough : T (up_to (λ v. leb (8 * total_of (v + 1)) (data_modules (layout_of (v + 1)))) 3)
unfolding total_of totals data_modules layout_of plot_all corners each corner_at ring edge finder_at finder_row finders half within
enough = tt

pub open_enough : (v : ℕ) → 1 ≤ v → v ≤ 3 → 8 * total_of v ≤ data_modules (layout_of v)
open_enough v lo hi =
    let e : v - 1 + 1 ≡ v = omega arith in
    let t : 8 * total_of (v - 1 + 1) ≤ data_modules (layout_of (v - 1 + 1)) =
    leb→le _ _ (every (λ n. leb (8 * total_of (n + 1)) (data_modules (layout_of (n + 1)))) 3 enough (v - 1) (omega arith)) in
    subst (λ (n : ℕ). 8 * total_of n ≤ data_modules (layout_of n)) e t

-- The data of a row stand side by side.

module _ {s r : ℕ} {ks : List ℕ} (o : Open s ks) (h : r < s) where
  margin_data : {m : ℕ} → Margin s r m → (c : ℕ) → m ≤ c → c < s - m → get_or ks (r * s + c) 0 ≡ 0
  margin_data (whole a b) c lo hi = o.rows r c a b (omega arith)
  margin_data (ends e) c lo hi = o.columns r c h lo (omega arith)

  margin_none : {m : ℕ} → Margin s r m → (c : ℕ) → c < s → (c < m) ⊎ (s ≤ c + m) → get_or ks (r * s + c) 0 ≢ 0
  margin_none (whole a b) c l (inl x) = absurd (omega arith)
  margin_none (whole a b) c l (inr x) = absurd (omega arith)
  margin_none (ends e) c l d = o.corners r c h l e d

pub margin_few : {s r m : ℕ} → Margin s r m → m ≤ 9
margin_few (whole a b) = omega arith
margin_few (ends e) = omega arith

pub open_turn : {total m : ℕ} {all out out' row : List ℕ} {r s : Run} (mask : ℕ) (ks sq : List ℕ) (i side : ℕ) → 23 ≤ side → Open side ks
    → length sq ≡ side * side → i < side → Margin side i m
    → ((c : ℕ) → m ≤ c → c < side - m → get_or row c 0 ≡ mask_at mask (i + 1) (c + 1)) → r.column ≡ m → s.column ≡ side - m
    → Spans (part (i * side) (i * side + side) sq) row out out' r s
    → Walk total all out (bits_from (mask_bit side mask) ks sq (i * side)) r → Walk total all out' (bits_from (mask_bit side mask) ks sq ((i + 1) * side)) s
open_turn {m = m} {row = row} {r = r} {s = s} mask ks sq i side big o e l g masks er es spans w =
    row_turn (mask_bit side mask) ks sq i side (omega (arith, o.size)) h agree front back
    (spans.go us (lx ∙ sym lu) (λ k lo hi. part_at (i * side) side k ks (omega arith) ∙ margin_data o l g k (omega arith) (omega arith))) w
  where
    us : List ℕ
    us = part (i * side) (i * side + side) ks

    xs : List ℕ
    xs = part (i * side) (i * side + side) sq

    h : i * side + side ≤ length sq
    h = omega (arith, row_inside i side l, e)

    lu : length us ≡ side
    lu = part_length (i * side) side ks (omega (arith, o.size, e, h))

    lx : length xs ≡ side
    lx = part_length (i * side) side sq h

    few : m ≤ 9
    few = margin_few g

    none : (k : ℕ) → k < side → (k < m) ⊎ (side ≤ k + m) → get_or us k 0 ≢ 0
    none k q d z = margin_none o l g k q d (sym (part_at (i * side) side k ks q) ∙ z)

    agree : (c : ℕ) → c < side → get_or us c 0 ≡ 0 → get_or row c 0 ≡ mask_bit side mask (i * side + c)
    agree c q z = elim (dec_lt c m) [
      | yes x ↦ absurd (none c q (inl x) z)
      | no x ↦ elim (dec_lt c (side - m)) [ yes y ↦ masks c (omega arith) y ∙ row_mask mask i side c q | no y ↦ absurd (none c q (inr (omega (arith, few))) z) ]
    ]

    front : row_bits us xs row r.column ≡ row_bits us xs row 0
    front = let z : 0 + r.column ≡ r.column = omega arith in sym
        (from_misses (λ k. get_or row k 0) us xs (omega (arith, lu, lx)) r.column 0 (omega (arith, lx, er, few))
        (λ k a b. none k (omega (arith, er, few)) (inl (omega (arith, er)))) ∙ ap (row_bits us xs row) z)

    back : row_bits us xs row s.column ≡ []
    back =
        from_misses (λ k. get_or row k 0) us xs (omega (arith, lu, lx)) (side - s.column) s.column (omega (arith, lx, es))
        (λ k a b. none k (omega (arith, es)) (inr (omega (arith, es))))
        ∙ bits_none (λ k. get_or row k 0) us xs (s.column + (side - s.column)) (omega (arith, lx, es))
