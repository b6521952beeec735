-- A square as its rows.
use Rattle.general.proofs.Names.{◌≡◌, refl, ap, ap₂, ◌∙◌, sym, List, [], ◌∷◌, ◌++◌, append-nil, ℕ, zero, suc, ◌+◌, ◌-◌, ◌*◌, ◌%◌, ◌<◌, ◌≤◌, add-mul, one-mul}
use Rattle.general.proofs.Names.{mul-le-mul_left, zero-add, add-zero, add-suc, suc-add, arith, dec_lt, lit<, length, length-take, get_or-eq_default, get_or, take, drop, length-append, length-drop}
use Rattle.general.proofs.Names.{take-append-drop, drop_of_length-le, length-take-le, take_all, drop-drop, get_or-drop, get_or-take, bit_xor}
use lib.Arith.{digits_div, digits_mod}
use lib.Pow.{pow_pos}
use Rattle.bits.specs.Bits.{low_bits, first_words, groups}
use Rattle.bits.proofs.Words.{length_low}
use Rattle.codewords.specs.Codewords.{mask_at, mask_bit, data_bits}
use Rattle.information.specs.Inner.{lowest}
use Rattle.information.proofs.Copies.{lowest_lt}
use Rattle.codewords.specs.Inner.{ModulesAndKinds}
use Rattle.placement.proofs.Walk.{length_lowest}
use Rattle.masks.specs.Columns.{Row}
use Rattle.placement.specs.Walk.{bits_from, FewPending, Walk, Masked, Aligned, row_bits, ReadsColumns}
use Rattle.placement.specs.declared.Run.{Run}

-- Parts of a list.

-- from one place on and before another
abbrev pub part : ℕ → ℕ → List ℕ → List ℕ
part at end l = take (end - at) (drop at l)

pub part_front : (at end : ℕ) (l : List ℕ) → at ≤ end → drop at l ≡ part at end l ++ drop end l
part_front at end l h =
    let e : at + (end - at) ≡ end = omega arith in
    sym (take-append-drop (end - at) (drop at l)) ∙ ap (λ (r : List ℕ). part at end l ++ r) (drop-drop (end - at) at l ∙ ap (λ (n : ℕ). drop n l) e)

pub part_length : (at side : ℕ) (l : List ℕ) → at + side ≤ length l → length (part at (at + side) l) ≡ side
part_length at side l h = length-take-le (at + side - at) (drop at l) (omega (arith, length-drop at l)) ∙ omega arith

pub part_at : (at side k : ℕ) (l : List ℕ) → k < side → get_or (part at (at + side) l) k 0 ≡ get_or l (at + k) 0
part_at at side k l h = get_or-take (at + side - at) (drop at l) k 0 (omega arith) ∙ get_or-drop at l k 0

part_small : (m at end : ℕ) (l : List ℕ) → 0 < m → ((k : ℕ) → get_or l k 0 < m) → (k : ℕ) → get_or (part at end l) k 0 < m
part_small m at end l p h k = elim (dec_lt k (end - at)) [
  | yes q ↦ rw (get_or-take (end - at) (drop at l) k 0 q, get_or-drop at l k 0) (h (at + k))
  | no q ↦ rw (get_or-eq_default (part at end l) 0 {n = k} (omega (arith, length-take (end - at) (drop at l)))) p
]

-- the lowest bits of a part
pub lowest_part : (at end : ℕ) (l : List ℕ) → lowest (part at end l) ≡ part at end (lowest l)
lowest_part at end l = front (end - at) (drop at l) ∙ ap (take (end - at)) (rest at l)
  where
    front : (n : ℕ) (l : List ℕ) → lowest (take n l) ≡ take n (lowest l)
    front zero l = refl
    front (suc n) [] = refl
    front (suc n) (x ∷ l) = ap (λ (r : List ℕ). (x % 2) ∷ r) (front n l)

    rest : (n : ℕ) (l : List ℕ) → lowest (drop n l) ≡ drop n (lowest l)
    rest zero l = refl
    rest (suc n) [] = refl
    rest (suc n) (x ∷ l) = rest n l

-- Rows of a square of side s.

pub row_inside : (i s : ℕ) → i < s → i * s + s ≤ s * s
row_inside i s h = let k : i + 1 ≤ s = omega arith in omega (arith, mul-le-mul_left s k)

pub row_next : (i s : ℕ) → i * s + s ≡ (i + 1) * s
row_next i s = omega (arith, add-mul i 1 s, one-mul s)

pub row_mask : (mask i s c : ℕ) → c < s → mask_at mask (i + 1) (c + 1) ≡ mask_bit s mask (i * s + c)
unfolding mask_bit
row_mask mask i s c h = sym (ap₂ (λ (x y : ℕ). mask_at mask (x + 1) (y + 1)) (digits_div i h) (digits_mod i h))

pub masked : {row : List ℕ} (sq : List ℕ) (at side : ℕ) → ((k : ℕ) → get_or sq k 0 < 2) → ((k : ℕ) → get_or row k 0 < 2) → side ≤ 189 → at + side ≤ length sq
    → Masked (part at (at + side) sq) row
masked sq at side g r s h = record { side = omega (arith, part_length at side sq h); modules = part_small 2 at (at + side) sq (lit< tt) g; masks = r }

pub aligned : {mask : ℕ} {ks sq row : List ℕ} (at side : ℕ) → ModulesAndKinds ks sq → Row mask row → side ≤ 189 → at + side ≤ length sq
    → Aligned (part at (at + side) ks) (part at (at + side) sq) row
aligned {mask} {ks} {sq} {row} at side g r s h =
    let k : length (part at (at + side) ks) ≡ side = part_length at side ks (omega (arith, g.kinds)) in
    let l : length (part at (at + side) sq) ≡ side = part_length at side sq h in
    record {
      masked = rw (lowest_part at (at + side) sq) (masked (lowest sq) at side (lowest_lt sq) r.small s (omega (arith, length_lowest sq)));
      size = l ∙ sym k;
      room = r.size;
      modules = part_small 3 at (at + side) sq (lit< tt) g.modules;
    }

-- The data bits of a square are those of its rows.

data_append : (m : ℕ → ℕ) (i : ℕ) (us vs xs ys : List ℕ) → length us ≡ length xs
    → data_bits m i (us ++ vs) (xs ++ ys) ≡ data_bits m i us xs ++ data_bits m (i + length us) vs ys
unfolding data_bits
data_append m i [] vs [] ys e = rw add-zero
data_append m i [] vs (x ∷ xs) ys e = absurd (omega arith)
data_append m i (u ∷ us) vs [] ys e = absurd (omega arith)
data_append m i (zero ∷ us) vs (x ∷ xs) ys e = rw (add-suc, ← suc-add, data_append m (suc i) us vs xs ys (omega arith))
data_append m i (suc u ∷ us) vs (x ∷ xs) ys e = rw (add-suc, ← suc-add) (data_append m (suc i) us vs xs ys (omega arith))

-- masks that are the same at the data modules from two places on
abbrev pub Agree : List ℕ → (ℕ → ℕ) → (ℕ → ℕ) → ℕ → ℕ → Type 0
Agree us m n i j = (k : ℕ) → k < length us → get_or us k 0 ≡ 0 → m (i + k) ≡ n (j + k)

pub agree_first : (m n : ℕ → ℕ) (i j : ℕ) (us : List ℕ) → Agree (0 ∷ us) m n i j → m i ≡ n j
agree_first m n i j us h = simp add-zero at (h 0 (omega arith) refl)

pub agree_later : (m n : ℕ → ℕ) (i j u : ℕ) (us : List ℕ) → Agree (u ∷ us) m n i j → Agree us m n (suc i) (suc j)
agree_later m n i j u us h k q z = simp suc-add (simp add-suc at (h (suc k) (omega arith) z))

data_masks : (m n : ℕ → ℕ) (i j : ℕ) (us xs : List ℕ) → Agree us m n i j → data_bits m i us xs ≡ data_bits n j us xs
unfolding data_bits
data_masks m n i j [] xs h = refl
data_masks m n i j (u ∷ us) [] h = refl
data_masks m n i j (zero ∷ us) (x ∷ xs) h =
    ap₂ (λ (y : ℕ) (l : List ℕ). bit_xor x y ∷ l) (agree_first m n i j us h) (data_masks m n (suc i) (suc j) us xs (agree_later m n i j 0 us h))
data_masks m n i j (suc u ∷ us) (x ∷ xs) h = data_masks m n (suc i) (suc j) us xs (agree_later m n i j (suc u) us h)

row_split : (m : ℕ → ℕ) (ks sq row : List ℕ) (at side : ℕ) → length sq ≤ length ks → at + side ≤ length sq
    → ((c : ℕ) → c < side → get_or (part at (at + side) ks) c 0 ≡ 0 → get_or row c 0 ≡ m (at + c))
    → bits_from m ks sq at ≡ row_bits (part at (at + side) ks) (part at (at + side) sq) row 0 ++ bits_from m ks sq (at + side)
row_split m ks sq row at side g h e =
    let us = part at (at + side) ks in
    let xs = part at (at + side) sq in
    let k : length (part at (at + side) ks) ≡ side = part_length at side ks (omega arith) in
    let l : length (part at (at + side) sq) ≡ side = part_length at side sq h in
    ap₂ (data_bits m at) (part_front at (at + side) ks (omega arith)) (part_front at (at + side) sq (omega arith))
    ∙ data_append m at us (drop (at + side) ks) xs (drop (at + side) sq) (k ∙ sym l)
    ∙ rw (k, data_masks m (λ c. get_or row c 0) at 0 us xs (λ c q d. simp zero-add (sym (e c (omega arith) d))))

pub bits_none : (m : ℕ → ℕ) (ks sq : List ℕ) (i : ℕ) → length sq ≤ i → bits_from m ks sq i ≡ []
unfolding data_bits
bits_none m ks sq i h = ap (data_bits m i (drop i ks)) (drop_of_length-le sq {i = i} h) ∙ empty (drop i ks)
  where
    empty : (us : List ℕ) → data_bits m i us [] ≡ []
    empty [] = refl
    empty (k ∷ us) = refl

-- The walk over all rows.

pub rows_pending : {r : Run} → r.value ≡ 0 → r.bits ≡ 0 → FewPending r
rows_pending {r} v b = record { few = omega arith; small = omega (arith, pow_pos (8 + r.bits)) }

-- the column does not matter
pub walk_again : {total : ℕ} {all out rest : List ℕ} {r s : Run} → s.n ≡ r.n → s.value ≡ r.value → s.bits ≡ r.bits → Walk total all out rest r
    → Walk total all out rest s
walk_again n v b k = record { words = rw (n, b, v) k.words }

pub rows_begun : (all out : List ℕ) {r : Run} → r.n ≡ 0 → r.value ≡ 0 → r.bits ≡ 0 → 8 * length out ≤ length all → Walk (length out) all out all r
unfolding low_bits
rows_begun all out {r} n v b h =
    let e : length out - 0 ≡ length out = omega arith in
    walk_again {r = record { column = 0; n = 0; value = 0; bits = 0 }} n v b
    (record { words = record { size = refl; few = omega arith; enough = omega arith; is = ap (λ (k : ℕ). first_words 8 k all) e } })

-- row i of a square
abbrev row_in : ℕ → ℕ → List ℕ → List ℕ
row_in i side l = part (i * side) (i * side + side) l

module _ {total : ℕ} {all out out' row : List ℕ} {r s : Run} (m : ℕ → ℕ) (ks sq : List ℕ) (i side : ℕ) (g : length sq ≤ length ks)
    (h : i * side + side ≤ length sq) where
  -- before the first column that is read there are no data, nor from the last one on
  pub row_turn : ((c : ℕ) → c < side → get_or (row_in i side ks) c 0 ≡ 0 → get_or row c 0 ≡ m (i * side + c))
      → row_bits (row_in i side ks) (row_in i side sq) row r.column ≡ row_bits (row_in i side ks) (row_in i side sq) row 0
      → row_bits (row_in i side ks) (row_in i side sq) row s.column ≡ []
      → ReadsColumns (row_in i side ks) (row_in i side sq) row out out' r s → Walk total all out (bits_from m ks sq (i * side)) r
      → Walk total all out' (bits_from m ks sq ((i + 1) * side)) s
  row_turn e a b go w =
      let rest = bits_from m ks sq (i * side + side) in
      rw (← row_next i side) (rw b at (go.go total all rest (rw (row_split m ks sq row (i * side) side g h e, ← a) at w)))

  -- all columns are read
  pub rows_turn : ((c : ℕ) → c < side → get_or row c 0 ≡ m (i * side + c)) → r.column ≡ 0 → s.column ≡ length (row_in i side ks)
      → ReadsColumns (row_in i side ks) (row_in i side sq) row out out' r s → Walk total all out (bits_from m ks sq (i * side)) r
      → Walk total all out' (bits_from m ks sq ((i + 1) * side)) s
  rows_turn e a b =
      row_turn (λ c q d. e c q) (ap (row_bits (row_in i side ks) (row_in i side sq) row) a)
      (bits_none (λ k. get_or row k 0) (row_in i side ks) (row_in i side sq) s.column
      (omega (arith, part_length (i * side) side sq h, part_length (i * side) side ks (omega arith))))

pub rows_done : {total : ℕ} {all out : List ℕ} {r : Run} (m : ℕ → ℕ) (ks sq : List ℕ) (i : ℕ) → length sq ≤ i → FewPending r
    → Walk total all out (bits_from m ks sq i) r → out ≡ first_words 8 total all
unfolding first_words groups
rows_done {total} {all} {out} {r} m ks sq i h p k =
    let w = k.words in
    let z : length (low_bits r.bits r.value ++ bits_from m ks sq i) ≡ r.bits = simp (length-append, length_low, bits_none m ks sq i h) (omega arith) in
    let n : r.n ≡ total = omega arith in
    let e : total - r.n ≡ 0 = omega arith in
    sym (take_all r.n out (omega arith)) ∙ sym (append-nil (take r.n out)) ∙ (rw e at w.is)

-- The first total codewords in front of what stood behind them.
pub first_codewords : {out' : List ℕ} (out all : List ℕ) (total : ℕ) → total ≤ length out → out' ≡ first_words 8 (length (take total out)) all
    → out' ++ drop total out ≡ first_words 8 total all ++ drop total out
first_codewords out all total h e = rw (e, length-take-le total out h)
