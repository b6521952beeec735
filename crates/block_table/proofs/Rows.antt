-- The rule holds at the row of each version and level: one test that antt computes over the table, carried to each row.
use Rattle.general.proofs.Names.{◌≡◌, refl, sym, ap, subst, ◌∙◌, Bool, true, ◌&&◌, List, [], ◌∷◌, ◌++◌, foldr, ℕ, zero, suc, ◌+◌, ◌-◌, ◌*◌, ◌/◌, ◌<◌, ◌≤◌}
use Rattle.general.proofs.Names.{add-zero, le_of_suc-le-suc, not-suc-le-zero, arith, T, ltb, leb, eqb→eq, ltb→lt, leb→le, length, take, drop, get_or, set}
use Rattle.general.proofs.Names.{length-drop, drop-drop, get_or-take, get_or-drop, get_or-set_same, get_or-set_other, ext_get_or, length-take-le, ℕ_discrete}
use Rattle.general.proofs.Finite.{and_left, and_right, up_to, every}
use Rattle.block_table.specs.Table.{blocks, totals}
use Rattle.block_table.specs.Blocks.{total_of, row_of, Shape, size, batch, shapes, shapes_of, total_size, total_data, block_holds, row_holds}
use Rattle.general.proofs.Lowest.{lowest_alike}
use Rattle.general.specs.Lists.{lowest}
use Rattle.block_table.specs.Inner.{Sound, none, more, enough}

-- f holds of n rows of nine, counted from i
every_row : (ℕ → List ℕ → Bool) → ℕ → ℕ → List ℕ → Bool
every_row f zero i xs = true
every_row f (suc n) i xs = f i (take 9 xs) && every_row f n (suc i) (drop 9 xs)

rows_from : (f : ℕ → List ℕ → Bool) (n i : ℕ) (xs : List ℕ) → T (every_row f n i xs) → (k : ℕ) → k < n → T (f (i + k) (take 9 (drop (9 * k) xs)))
unfolding every_row
rows_from f zero i xs t k h = absurd (not-suc-le-zero h)
rows_from f (suc n) i xs t zero h = subst (λ (m : ℕ). T (f m (take 9 xs))) (sym (add-zero i)) (and_left (f i (take 9 xs)) (every_row f n (suc i) (drop 9 xs)) t)
rows_from f (suc n) i xs t (suc k) h =
    let ih : T (f (suc i + k) (take 9 (drop (9 * k) (drop 9 xs)))) =
    rows_from f n (suc i) (drop 9 xs) (and_right (f i (take 9 xs)) (every_row f n (suc i) (drop 9 xs)) t) k (le_of_suc-le-suc h) in
    let n9 : 9 + 9 * k ≡ 9 * suc k = omega arith in
    let e : drop (9 * k) (drop 9 xs) ≡ drop (9 * suc k) xs = drop-drop (9 * k) 9 xs ∙ ap (λ (m : ℕ). drop m xs) n9 in
    let g : suc i + k ≡ i + suc k = omega arith in
    subst (λ (m : ℕ). T (f m (take 9 (drop (9 * suc k) xs)))) g (subst (λ (l : List ℕ). T (f (suc i + k) (take 9 l))) e ih)

test : ℕ → List ℕ → Bool
test i r = row_holds (shapes r) (get_or totals (i / 4) 0)

passes : T (every_row test 336 0 blocks)
unfolding every_row test row_holds block_holds shapes batch total_size blocks totals
passes = tt

pub row_holds_lem : (v level : ℕ) → 1 ≤ v → v ≤ 84 → level ≤ 3 → T (row_holds (shapes_of v level) (total_of v))
unfolding shapes_of row_of total_of test
row_holds_lem v l lo hi le =
    let h : 4 * (v - 1) + l < 336 = omega arith in
    let q : (0 + (4 * (v - 1) + l)) / 4 ≡ v - 1 = omega arith in
    subst (λ (m : ℕ). T (row_holds (shapes (take 9 (drop (9 * (4 * (v - 1) + l)) blocks))) (get_or totals m 0))) q
    (rows_from test 336 0 blocks passes (4 * (v - 1) + l) h)

-- totals are small, those of the first versions still more so: tests that antt computes
total_below : (n b : ℕ) → T (up_to (λ k. leb (get_or totals k 0) b) n) → (v : ℕ) → 1 ≤ v → v ≤ n → total_of v ≤ b
unfolding total_of
total_below n b t v lo hi = leb→le _ _ (every (λ k. leb (get_or totals k 0) b) n t (v - 1) (omega arith))

pub total_small : (v : ℕ) → 1 ≤ v → v ≤ 84 → total_of v ≤ 3886
unfolding totals
total_small = total_below 84 3886 tt

pub total_ten : (v : ℕ) → 1 ≤ v → v ≤ 10 → total_of v ≤ 155
unfolding totals
total_ten = total_below 10 155 tt

pub total_open : (v : ℕ) → 1 ≤ v → v < 4 → total_of v ≤ 50
unfolding totals
total_open v lo hi = total_below 3 50 tt v lo (omega arith)

-- a number of a row, in the table
row_number : (v level n : ℕ) → n < 9 → get_or blocks ((4 * (v - 1) + level) * 9 + n) 0 ≡ get_or (row_of v level) n 0
unfolding row_of
row_number v level n h =
    let e : (4 * (v - 1) + level) * 9 + n ≡ 9 * (4 * (v - 1) + level) + n = omega arith in
    ap (λ (i : ℕ). get_or blocks i 0) e ∙ sym (get_or-take 9 (drop (9 * (4 * (v - 1) + level)) blocks) n 0 h ∙ get_or-drop (9 * (4 * (v - 1) + level)) blocks n 0)

rows_length : length blocks ≡ 3024
unfolding blocks
rows_length = refl

-- a row copied number by number
pub row_copied : (v level : ℕ) → 1 ≤ v → v ≤ 84 → level ≤ 3 → (r : List ℕ) → length r ≡ 9
    → ((k : ℕ) → k < 9 → get_or r k 0 ≡ get_or blocks ((4 * (v - 1) + level) * 9 + k) 0) → r ≡ row_of v level
unfolding row_of
row_copied v level lo hi le r l e =
    ext_get_or 0 r (take 9 (drop (9 * (4 * (v - 1) + level)) blocks))
    (l ∙ sym (length-take-le 9 (drop (9 * (4 * (v - 1) + level)) blocks) (omega (arith, length-drop (9 * (4 * (v - 1) + level)) blocks, rows_length))))
    (λ i h. e i (omega arith) ∙ row_number v level i (omega arith))

-- one number more
pub copied_more : (f : ℕ → ℕ) (r : List ℕ) (n x : ℕ) → n < length r → x ≡ f n → ((k : ℕ) → k < n → get_or r k 0 ≡ f k) → (k : ℕ) → k < n + 1 → get_or (set r n x) k 0 ≡ f k
copied_more f r n x l e h k q = elim (ℕ_discrete k n) [
  | yes y ↦ ap (λ (i : ℕ). get_or (set r n x) i 0) y ∙ get_or-set_same r n x 0 l ∙ e ∙ ap f (sym y)
  | no y ↦ get_or-set_other r n k x 0 y ∙ h k (omega arith)
]

-- what the rule says of the blocks
blocks_sound : (bs : List Shape) → T (foldr (λ (b : Shape) (r : Bool). block_holds b && r) true bs) → Sound bs
unfolding block_holds
blocks_sound [] t = none
blocks_sound (b ∷ bs) t =
    let h = and_left (block_holds b) _ t in
    let u = and_right (ltb 0 b.parity) _ h in
    more {b = b} (omega (arith, ltb→lt b.parity (size b) (and_left (ltb b.parity (size b)) _ u))) (ltb→lt _ _ (and_left (ltb 0 b.parity) _ h))
    (leb→le _ _ (and_right (ltb b.parity (size b)) _ u)) (blocks_sound bs (and_right (block_holds b) _ t))

module _ (bs : List Shape) (total : ℕ) (t : T (row_holds bs total)) where
  pub row_sound : Sound bs
  unfolding row_holds
  row_sound = blocks_sound bs (and_left (foldr (λ (b : Shape) (r : Bool). block_holds b && r) true bs) _ t)

  pub row_total : total_size bs ≡ total
  unfolding row_holds
  row_total = eqb→eq _ _ (and_right (foldr (λ (b : Shape) (r : Bool). block_holds b && r) true bs) _ t)

pub total_append : (bs cs : List Shape) → total_size (bs ++ cs) ≡ total_size bs + total_size cs
unfolding total_size
total_append [] cs = omega arith
total_append (b ∷ bs) cs = let e = total_append bs cs in omega arith

pub total_batch : (n d p : ℕ) → total_size (batch n d p) ≡ n * (d + p)
unfolding total_size batch
total_batch zero d p = omega arith
total_batch (suc n) d p = let e = total_batch n d p in omega arith

module _ (v level : ℕ) (lo : 1 ≤ v) (hi : v ≤ 84) (le : level ≤ 3) where
  pub shapes_total : total_size (shapes_of v level) ≡ total_of v
  shapes_total = row_total (shapes_of v level) (total_of v) (row_holds_lem v level lo hi le)

  pub shapes_sound : Sound (shapes_of v level)
  shapes_sound = row_sound (shapes_of v level) (total_of v) (row_holds_lem v level lo hi le)

-- ---- the data codewords of all rows, one after the other

unfoldable pub rooms_from : ℕ → List ℕ → List ℕ
rooms_from zero xs = []
rooms_from (suc n) xs = total_data (shapes (take 9 xs)) ∷ rooms_from n (drop 9 xs)

room_from : (n : ℕ) (xs : List ℕ) (k : ℕ) → k < n → get_or (rooms_from n xs) k 0 ≡ total_data (shapes (take 9 (drop (9 * k) xs)))
unfolding rooms_from
room_from zero xs k h = absurd (not-suc-le-zero h)
room_from (suc n) xs zero h = refl
room_from (suc n) xs (suc k) h =
    let n9 : 9 + 9 * k ≡ 9 * suc k = omega arith in
    room_from n (drop 9 xs) k (le_of_suc-le-suc h) ∙ rw (drop-drop (9 * k) 9 xs, n9)

-- a search by them is one by the data codewords of each version and level
pub search_alike : (level bits from : ℕ) → level ≤ 3 → 1 ≤ from → from ≤ 85
    → lowest (enough (rooms_from 336 blocks) level bits) (85 - from) from ≡ lowest (λ v. leb bits (8 * total_data (shapes_of v level))) (85 - from) from
unfolding shapes_of row_of
search_alike level bits from le lo hi =
    lowest_alike (enough (rooms_from 336 blocks) level bits) (λ v. leb bits (8 * total_data (shapes_of v level))) (85 - from) from
    (λ v a b. ap (λ (n : ℕ). leb bits (8 * n)) (room_from 336 blocks (4 * (v - 1) + level) (omega arith)))
