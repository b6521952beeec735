-- A square written row by row.
use Rattle.general.proofs.Names.{◌≡◌, refl, ap, ◌∙◌, sym, subst, List, [], ◌∷◌, ◌++◌, append_assoc, append-nil, ℕ, zero, suc, ◌+◌, ◌-◌, ◌*◌, ◌<◌, ◌≤◌, add-suc, suc-add, add-zero, zero-add}
use Rattle.general.proofs.Names.{arith, length, get_or, take, drop, length-append, length-drop, drop_of_length-le, length-take-le, take_at, drop_at, take_all}
use Rattle.general.proofs.Names.{drop-drop, drop-nil, get_or-drop}
use Rattle.symbol.specs.Layout.{data_modules}
use Rattle.symbol.proofs.DataModules.{module_miss, modules_append}
use Rattle.codewords.specs.Codewords.{placed}
use Rattle.masks.specs.Columns.{Row}
use Rattle.drawing.specs.Puts.{pattern_of, get_or₀, PatternsFrom, Placing, RowBuffers}
use Rattle.codewords.proofs.Placement.{length_placed}
use Rattle.placement.proofs.Rows.{part, part_front, part_length, part_at, row_next, Agree, agree_first, agree_later}

-- a row, then the others with the bits that are left
placed_append : (m : ℕ → ℕ) (i : ℕ) (us vs ds : List ℕ) → placed m i (us ++ vs) ds ≡ placed m i us ds ++ placed m (i + length us) vs (drop (data_modules us) ds)
unfolding placed data_modules
placed_append m i [] vs ds = rw add-zero
placed_append m i (zero ∷ us) vs [] = rw (add-suc, ← suc-add, placed_append m (suc i) us vs [], drop-nil)
placed_append m i (zero ∷ us) vs (d ∷ ds) = rw (add-suc, ← suc-add, placed_append m (suc i) us vs ds)
placed_append m i (suc zero ∷ us) vs ds = rw (add-suc, ← suc-add, placed_append m (suc i) us vs ds)
placed_append m i (suc (suc zero) ∷ us) vs ds = rw (add-suc, ← suc-add, placed_append m (suc i) us vs ds)
placed_append m i (suc (suc (suc k)) ∷ us) vs ds =
    rw (module_miss (suc (suc (suc k))) us (λ z. omega arith), add-suc, ← suc-add, placed_append m (suc i) us vs ds)

-- by another mask that is the same there
placed_masks : (m n : ℕ → ℕ) (i j : ℕ) (us ds : List ℕ) → Agree us m n i j → placed m i us ds ≡ placed n j us ds
unfolding placed
placed_masks m n i j [] ds h = refl
placed_masks m n i j (zero ∷ us) [] h = rw (agree_first m n i j us h, placed_masks m n (suc i) (suc j) us [] (agree_later m n i j 0 us h))
placed_masks m n i j (zero ∷ us) (d ∷ ds) h = rw (agree_first m n i j us h, placed_masks m n (suc i) (suc j) us ds (agree_later m n i j 0 us h))
placed_masks m n i j (suc zero ∷ us) ds h = rw (placed_masks m n (suc i) (suc j) us ds (agree_later m n i j 1 us h))
placed_masks m n i j (suc (suc zero) ∷ us) ds h = rw (placed_masks m n (suc i) (suc j) us ds (agree_later m n i j 2 us h))
placed_masks m n i j (suc (suc (suc k)) ∷ us) ds h = rw (placed_masks m n (suc i) (suc j) us ds (agree_later m n i j (suc (suc (suc k))) us h))

pub row_patterns : {ks sq : List ℕ} (at side : ℕ) → PatternsFrom ks sq at → at + side ≤ length ks → PatternsFrom (part at (at + side) ks) (part at (at + side) sq) 0
row_patterns {ks} {sq} at side d h = record {
  is = λ k lo hi.
      let l : k < side = omega (arith, part_length at side ks h) in
      part_at at side k sq l ∙ d.is (at + k) (omega arith) (omega arith) ∙ ap pattern_of (sym (part_at at side k ks l));
}

pub row_buffers : {mask : ℕ} {row cw : List ℕ} (ks sq : List ℕ) (at side : ℕ) → length sq ≡ length ks → Row mask row → side ≤ 189 → at + side ≤ length ks
    → length cw ≤ 65535 → RowBuffers (part at (at + side) sq) (part at (at + side) ks) row cw
row_buffers {mask} ks sq at side e r s h f =
    let k : length (part at (at + side) ks) ≡ side = part_length at side ks h in
    record { side = omega arith; size = part_length at side sq (omega arith) ∙ sym k; room = r.size; masks = r.small; few = f }

-- one row more: `new` stands in the place of its row, and the bits behind those of the row are left
pub placing_row : {whole after sq sq' ds ds' new : List ℕ} (m : ℕ → ℕ) (ks row : List ℕ) (i side : ℕ) → Placing m ks whole after sq ds (i * side)
    → i * side + side ≤ length ks → ((c : ℕ) → c < side → get_or row c 0 ≡ m (i * side + c))
    → new ≡ placed (get_or₀ row) 0 (part (i * side) (i * side + side) ks) ds → ds' ≡ drop (data_modules (part (i * side) (i * side + side) ks)) ds
    → sq' ≡ take (i * side) sq ++ (new ++ drop (i * side + side - i * side) (drop (i * side) sq)) → Placing m ks whole after sq' ds' ((i + 1) * side)
placing_row {whole} {after} {sq} {sq'} {ds} {ds'} {new} m ks row i side p h a e f g =
    let at = i * side in
    let us = part (i * side) (i * side + side) ks in
    let vs = drop (i * side + side) ks in
    let l : length (part (i * side) (i * side + side) ks) ≡ side = part_length at side ks h in
    let whole_row : drop (i * side) ks ≡ part (i * side) (i * side + side) ks ++ drop (i * side + side) ks = part_front at (at + side) ks (omega arith) in
    let same : placed m (i * side) (part (i * side) (i * side + side) ks) ds ≡ new =
    placed_masks m (get_or₀ row) at 0 us ds (λ c k d. simp zero-add (sym (a c (omega arith)))) ∙ sym e in
    let both : placed m (i * side) (drop (i * side) ks) ds ≡ new ++ placed m (i * side + side) (drop (i * side + side) ks) ds' =
    rw (whole_row, placed_append m at us vs ds, same, l, f) in
    let n : length new ≡ side = ap length (sym same) ∙ length_placed m at us ds ∙ l in
    let o : length (take (i * side) sq) ≡ i * side = length-take-le at sq (omega arith) in
    let w : length (take (i * side) sq ++ new) ≡ i * side + side = rw (length-append, o, n) in
    let q : sq' ≡ take (i * side) sq ++ new ++ drop (i * side + side) sq =
    (let z : i * side + (i * side + side - i * side) ≡ i * side + side = omega arith in g ∙ rw (drop-drop, z, append_assoc)) in
    let front : take (i * side + side) sq' ≡ take (i * side) sq ++ new =
    rw q (take_at (take at sq ++ new) (drop (at + side) sq) (at + side) w) in
    let back : drop (i * side + side) sq' ≡ drop (i * side + side) sq =
    rw q (drop_at (take at sq ++ new) (drop (at + side) sq) (at + side) w) in
    let size : length sq' ≡ length sq =
    ap length q ∙ length-append (take at sq ++ new) (drop (at + side) sq) ∙ omega (arith, length-drop (i * side + side) sq) in
    subst (Placing m ks whole after sq' ds') (row_next i side) (record {
      size = size ∙ p.size;
      few = h;
      is = rw (front, append_assoc, ← both) p.is;
      left = rw (f, drop-drop) (rw (whole_row, modules_append us vs) at p.left);
      patterns = record {
        is = λ k lo hi.
            let z : i * side + side + (k - (i * side + side)) ≡ k = omega arith in
            sym (rw (back, get_or-drop, z) at (get_or-drop (at + side) sq' (k - (at + side)) 0)) ∙ p.patterns.is k (omega arith) hi;
      };
    })

pub placing_done : {m : ℕ → ℕ} {ks whole after sq ds : List ℕ} {i : ℕ} → Placing m ks whole after sq ds i → length ks ≤ i → sq ≡ whole
unfolding placed
placing_done {m} {ks} {whole} {after} {sq} {ds} {i} p h =
    sym (append-nil sq) ∙ (rw (take_all i sq (omega arith), drop_of_length-le ks {i = i} h) at p.is)
