-- Columns filled one by one, and a row.
use Rattle.general.proofs.Names.{◌≡◌, refl, ap, ap₂, ◌∙◌, sym, subst, ◌≢◌, List, ℕ, zero, suc, ◌+◌, ◌-◌, ◌*◌, ◌/◌, ◌%◌, ◌<◌, ◌≤◌, arith, dec_lt, ℕ_discrete}
use Rattle.general.proofs.Names.{length, get_or, set, length-set, replicate, length-replicate, get_or-replicate, get_or-eq_default, get_or-set_same}
use Rattle.general.proofs.Names.{get_or-set_other}
use Rattle.codewords.specs.Codewords.{mask_at}
use Rattle.codewords.proofs.Masks.{mask_zero, mask_one, mask_two, mask_lt}
use Rattle.masks.specs.Columns.{inverse, rest, Column, Columns, Row}

pub columns_start : {mask : ℕ} {table : List ℕ} → length table ≡ 576 → Columns mask 0 table
columns_start e = record { size = e; rows = λ p m k c l h. absurd (omega arith); column = λ p c h. absurd (omega arith) }

pub columns_fewer : {mask n m : ℕ} {table : List ℕ} → m ≤ n → Columns mask n table → Columns mask m table
columns_fewer h u = record { size = u.size; rows = λ p m k c l g. u.rows p m k c l (omega arith); column = λ p c l. u.column p c (omega arith) }

pub columns_none : {mask n : ℕ} {table : List ℕ} → mask ≡ 0 → length table ≡ 576 → Columns mask n table
columns_none z e = record { size = e; rows = λ p m k c l h. absurd (omega arith); column = λ p c h. absurd (omega arith) }

-- a column's three numbers, and the others as they were
module _ {mask n : ℕ} {table : List ℕ} (x y z : ℕ) (u : Columns mask n table) (h : n < 192) where
  abbrev t1 : List ℕ
  t1 = set table (192 + n) x

  abbrev t2 : List ℕ
  t2 = set t1 (384 + n) y

  abbrev t3 : List ℕ
  t3 = set t2 n z

  one : length t1 ≡ 576
  one = length-set table (192 + n) x ∙ u.size

  two : length t2 ≡ 576
  two = length-set t1 (384 + n) y ∙ one

  three : length t3 ≡ 576
  three = length-set t2 n z ∙ two

  at_first : get_or t3 n 0 ≡ z
  at_first = get_or-set_same t2 n z 0 (omega (arith, two))

  at_second : get_or t3 (192 + n) 0 ≡ x
  at_second = get_or-set_other t2 n (192 + n) z 0 (λ e. omega arith) ∙ get_or-set_other t1 (384 + n) (192 + n) y 0 (λ e. omega arith)
      ∙ get_or-set_same table (192 + n) x 0 (omega (arith, u.size))

  at_third : get_or t3 (384 + n) 0 ≡ y
  at_third = get_or-set_other t2 n (384 + n) z 0 (λ e. omega arith) ∙ get_or-set_same t1 (384 + n) y 0 (omega (arith, one))

  kept : (k : ℕ) → k ≢ n → k ≢ 192 + n → k ≢ 384 + n → get_or t3 k 0 ≡ get_or table k 0
  kept k a b c = get_or-set_other t2 n k z 0 a ∙ get_or-set_other t1 (384 + n) k y 0 c ∙ get_or-set_other table (192 + n) k x 0 b

  -- mask 3
  new : z ≡ n + 1 → x ≡ inverse (n + 1) → y ≡ rest (n + 1) → Column t3 n
  new d e f = record { number_is = at_first ∙ d; factor_is = at_second ∙ e; rest_is = at_third ∙ f }

  old : (c : ℕ) → c < n → Column table c → Column t3 c
  old c k v = record {
    number_is = kept c (λ e. omega arith) (λ e. omega arith) (λ e. omega arith) ∙ v.number_is;
    factor_is = kept (192 + c) (λ e. omega arith) (λ e. omega arith) (λ e. omega arith) ∙ v.factor_is;
    rest_is = kept (384 + c) (λ e. omega arith) (λ e. omega arith) (λ e. omega arith) ∙ v.rest_is;
  }

  pub columns_next : 2 < mask → z ≡ n + 1 → x ≡ inverse (n + 1) → y ≡ rest (n + 1) → Columns mask (n + 1) t3
  columns_next m d e f = record {
    size = three;
    rows = λ p l. absurd (omega arith);
    column = λ p c k. elim (ℕ_discrete c n) [ yes w ↦ subst (Column t3) (sym w) (new d e f) | no w ↦ (let l : c < n = omega arith in old c l (u.column p c l)) ];
  }

  -- masks 1 and 2
  row_same : (k : ℕ) → k < 3 → z ≡ mask_at mask 1 (n + 1) → x ≡ mask_at mask 2 (n + 1) → y ≡ mask_at mask 3 (n + 1) → get_or t3 (192 * k + n) 0 ≡ mask_at mask (k + 1) (n + 1)
  row_same zero l d e f = let w : 0 + n ≡ n = omega arith in ap (λ (j : ℕ). get_or t3 j 0) w ∙ at_first ∙ d
  row_same (suc zero) l d e f = at_second ∙ e
  row_same (suc (suc zero)) l d e f = at_third ∙ f
  row_same (suc (suc (suc k))) l d e f = absurd (omega arith)

  pub rows_next : mask < 3 → z ≡ mask_at mask 1 (n + 1) → x ≡ mask_at mask 2 (n + 1) → y ≡ mask_at mask 3 (n + 1) → Columns mask (n + 1) t3
  rows_next m d e f = record {
    size = three;
    rows = λ p l k c b g. elim (ℕ_discrete c n) [
      | yes w ↦ subst (λ (j : ℕ). get_or t3 (192 * k + j) 0 ≡ mask_at mask (k + 1) (j + 1)) (sym w) (row_same k b d e f)
      | no w ↦ kept (192 * k + c) (λ v. omega arith) (λ v. omega arith) (λ v. omega arith) ∙ u.rows p l k c b (omega arith)
    ];
    column = λ p. absurd (omega arith);
  }

-- all masks from 3 on are one
pub mask_above : (mask i j : ℕ) → 2 < mask → mask_at 3 i j ≡ mask_at mask i j
unfolding mask_at
mask_above zero i j h = absurd (omega arith)
mask_above (suc zero) i j h = absurd (omega arith)
mask_above (suc (suc zero)) i j h = absurd (omega arith)
mask_above (suc (suc (suc mask))) i j h = refl

-- masks 1 and 2 from the numbers
pub low_one : (mask i c : ℕ) → mask ≡ 1 → (i + c + 1) % 2 ≡ mask_at mask (i + 1) (c + 1)
low_one mask i c m = halves ∙ mask_one mask (i + 1) (c + 1) m
  where
    halves : (i + c + 1) % 2 ≡ 1 - (i + 1 + (c + 1)) % 2
    halves = omega arith

pub low_two : (mask i c : ℕ) → mask ≡ 2 → (i + 2 + (c + 1) / 3 + (i + c + 2) / 3) % 2 ≡ mask_at mask (i + 1) (c + 1)
low_two mask i c m =
    let e : i + 2 ≡ 1 + (i + 1) = omega arith in
    let f : i + c + 2 ≡ i + 1 + (c + 1) = omega arith in
    ap₂ (λ (a b : ℕ). (a + (c + 1) / 3 + b / 3) % 2) e f ∙ thirds (i + 1) (c + 1) ∙ mask_two mask (i + 1) (c + 1) m
  where
    thirds : (x y : ℕ) → (1 + x + y / 3 + (x + y) / 3) % 2 ≡ 1 - ((x + y) % 3 + y % 3) % 2
    thirds x y = omega arith

-- mask 1 repeats after two rows, and mask 2 after three
pub repeat_one : (mask i j : ℕ) → mask ≡ 1 → mask_at mask (i % 2 + 1) j ≡ mask_at mask (i + 1) j
repeat_one mask i j m = sym (mask_one mask (i % 2 + 1) j m) ∙ halves ∙ mask_one mask (i + 1) j m
  where
    halves : 1 - (i % 2 + 1 + j) % 2 ≡ 1 - (i + 1 + j) % 2
    halves = omega arith

pub repeat_two : (mask i j : ℕ) → mask ≡ 2 → mask_at mask (i % 3 + 1) j ≡ mask_at mask (i + 1) j
repeat_two mask i j m = sym (mask_two mask (i % 3 + 1) j m) ∙ ap (λ (r : ℕ). 1 - (r + j % 3) % 2) thirds ∙ mask_two mask (i + 1) j m
  where
    thirds : (i % 3 + 1 + j) % 3 ≡ (i + 1 + j) % 3
    thirds = omega arith

-- a row filled before a column
pub record Filling (mask i n : ℕ) (row : List ℕ) : Type 0 where
  pub row_is : Row mask row
  pub done : (c : ℕ) → c < n → get_or row c 0 ≡ mask_at mask (i + 1) (c + 1)

pub filling_start : {mask i : ℕ} {row : List ℕ} → Row mask row → Filling mask i 0 row
filling_start r = record { row_is = r; done = λ c h. absurd (omega arith) }

pub filling_next : {mask i n : ℕ} {row : List ℕ} (x : ℕ) → Filling mask i n row → 0 < mask → n < 192 → x ≡ mask_at mask (i + 1) (n + 1) → x < 2
    → Filling mask i (n + 1) (set row n x)
filling_next {mask} {i} {n} {row} x u p h e l =
    let same : get_or (set row n x) n 0 ≡ x = get_or-set_same row n x 0 (omega (arith, u.row_is.size)) in
    record {
      row_is = record {
        size = length-set row n x ∙ u.row_is.size;
        small = λ k. elim (ℕ_discrete k n) [
          | yes z ↦ subst (λ (y : ℕ). y < 2) (sym (ap (λ (j : ℕ). get_or (set row n x) j 0) z ∙ same)) l
          | no z ↦ subst (λ (y : ℕ). y < 2) (sym (get_or-set_other row n k x 0 z)) (u.row_is.small k)
        ];
        none = λ z. absurd (omega arith);
      };
      done = λ c k. elim (ℕ_discrete c n) [
        | yes z ↦ ap (λ (j : ℕ). get_or (set row n x) j 0) z ∙ same ∙ e ∙ sym (ap (λ (j : ℕ). mask_at mask (i + 1) (j + 1)) z)
        | no z ↦ get_or-set_other row n c x 0 z ∙ u.done c (omega arith)
      ];
    }

-- a bit of the row k, where that is row i too
pub bit_copied : {mask n k c : ℕ} {table : List ℕ} (i : ℕ) → Columns mask n table → 0 < mask → mask < 3 → k < 3
    → ((j : ℕ) → mask_at mask (k + 1) j ≡ mask_at mask (i + 1) j) → c < n
    → (get_or table (192 * k + c) 0 ≡ mask_at mask (i + 1) (c + 1)) × (get_or table (192 * k + c) 0 < 2)
bit_copied {mask} {n} {k} {c} i u p m l e h =
    let f = u.rows p m k c l h ∙ e (c + 1) in (f, omega (arith, f, mask_lt mask (i + 1) (c + 1)))

pub row_new : {mask : ℕ} → Row mask (replicate 192 0)
row_new = record { size = length-replicate {A = ℕ} 192 0; small = λ k. omega (arith, zero_at k); none = λ z k. zero_at k }
  where
    zero_at : (k : ℕ) → ◌≡◌ {A = ℕ} (get_or (replicate 192 0) k 0) 0
    zero_at k = elim (dec_lt k 192) [
      | yes l ↦ get_or-replicate 192 k 0 0 l
      | no l ↦ get_or-eq_default (replicate 192 0) 0 {n = k}
          (omega (arith, length-replicate {A = ℕ} 192 0))
    ]

-- mask 0
pub row_none : {mask : ℕ} {row : List ℕ} (i : ℕ) → Row mask row → mask ≡ 0 → (c : ℕ) → get_or row c 0 ≡ mask_at mask (i + 1) (c + 1)
row_none {mask} i r z c = r.none z c ∙ mask_zero mask (i + 1) (c + 1) z
