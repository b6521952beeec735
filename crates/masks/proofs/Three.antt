-- Mask 3 by products: one computed test of all rows and columns to 192.
use Rattle.general.proofs.Names.{◌≡◌, refl, ap₂, ◌∙◌, subst, Bool, List, ℕ, suc, ◌+◌, ◌-◌, ◌*◌, ◌/◌, ◌%◌, ◌<◌, ◌≤◌, div-le_self, mul-le-mul_left, arith}
use Rattle.general.proofs.Names.{dec_lt, T, eqb, eqb→eq, ltb, ltb→lt, get_or}
use Rattle.general.proofs.Finite.{up_to, every}
use Rattle.codewords.specs.Codewords.{mask_at}
use Rattle.masks.specs.Columns.{inverse, rest, three_of, Column}

-- at i and j by products
abbrev three_at : ℕ → ℕ → ℕ
three_at i j = three_of i j (inverse i) (inverse j) (rest i) (rest j)

cell : ℕ → ℕ → Bool
cell i j = eqb (three_at i j) (mask_at 3 i j)

row_test : ℕ → Bool
row_test i = up_to (λ (c : ℕ). cell i (suc c)) 192

test0 : T (up_to (λ (k : ℕ). row_test (1 + k)) 48)
unfolding row_test cell inverse rest mask_at
test0 = tt

test1 : T (up_to (λ (k : ℕ). row_test (49 + k)) 48)
unfolding row_test cell inverse rest mask_at
test1 = tt

test2 : T (up_to (λ (k : ℕ). row_test (97 + k)) 48)
unfolding row_test cell inverse rest mask_at
test2 = tt

test3 : T (up_to (λ (k : ℕ). row_test (145 + k)) 48)
unfolding row_test cell inverse rest mask_at
test3 = tt

part : (b : ℕ) → T (up_to (λ (k : ℕ). row_test (b + k)) 48) → (i j : ℕ) → b ≤ i → i < b + 48 → 0 < j → j ≤ 192 → three_at i j ≡ mask_at 3 i j
unfolding row_test cell
part b t i j lo hi p h =
    let e : b + (i - b) ≡ i = omega arith in
    let f : suc (j - 1) ≡ j = omega arith in
    let u : T (row_test i) = subst (λ (n : ℕ). T (row_test n)) e (every (λ (k : ℕ). row_test (b + k)) 48 t (i - b) (omega arith)) in
    eqb→eq (three_at i j) (mask_at 3 i j) (subst (λ (n : ℕ). T (cell i n)) f (every (λ (c : ℕ). cell i (suc c)) 192 u (j - 1) (omega arith)))

three_is : (i j : ℕ) → 0 < i → i ≤ 192 → 0 < j → j ≤ 192 → three_at i j ≡ mask_at 3 i j
three_is i j pi hi pj hj = elim (dec_lt i 49) [
  | yes a ↦ part 1 test0 i j (omega arith) (omega arith) pj hj
  | no a ↦ elim (dec_lt i 97) [
    | yes b ↦ part 49 test1 i j (omega arith) (omega arith) pj hj
    | no b ↦ elim (dec_lt i 145) [
      | yes c ↦ part 97 test2 i j (omega arith) (omega arith) pj hj
      | no c ↦ part 145 test3 i j (omega arith) (omega arith) pj hj
    ]
  ]
]

-- from the columns
pub columns_three : {table : List ℕ} {i c : ℕ} → i < 192 → c < 192 → Column table i → Column table c
    → three_of (get_or table i 0) (get_or table c 0) (get_or table (192 + i) 0) (get_or table (192 + c) 0) (get_or table (384 + i) 0) (get_or table (384 + c) 0)
    ≡ mask_at 3 (i + 1) (c + 1)
columns_three {table} {i} {c} hi hc u v =
    ap₂ (λ (a b : ℕ). three_of a b (get_or table (192 + i) 0) (get_or table (192 + c) 0) (get_or table (384 + i) 0) (get_or table (384 + c) 0)) u.number_is v.number_is
    ∙ ap₂ (λ (a b : ℕ). three_of (i + 1) (c + 1) a b (get_or table (384 + i) 0) (get_or table (384 + c) 0)) u.factor_is v.factor_is
    ∙ ap₂ (three_of (i + 1) (c + 1) (inverse (i + 1)) (inverse (c + 1))) u.rest_is v.rest_is
    ∙ three_is (i + 1) (c + 1) (omega arith) (omega arith) (omega arith) (omega arith)

-- factors and rests are numbers of 16 bits

factor_test : T (up_to (λ (c : ℕ). ltb (inverse (suc c)) 65536) 192)
unfolding inverse
factor_test = tt

pub factor_lt : (j : ℕ) → 0 < j → j ≤ 192 → 65535 / j + 1 - 1 / j < 65536
unfolding inverse
factor_lt j p h =
    let f : suc (j - 1) ≡ j = omega arith in
    ltb→lt (inverse j) 65536 (subst (λ (n : ℕ). T (ltb (inverse n) 65536)) f (every (λ (c : ℕ). ltb (inverse (suc c)) 65536) 192 factor_test (j - 1) (omega arith)))

pub factor_eq : (j : ℕ) → 65535 / j + 1 - 1 / j ≡ inverse j
unfolding inverse
factor_eq j = refl

pub rest_eq : (j : ℕ) → j % 3 + 1 / j ≡ rest j
unfolding rest
rest_eq j = refl

pub rest_le : (j : ℕ) → rest j ≤ 3
unfolding rest
rest_le j = omega (arith, div-le_self 1 j)

pub one_over : (j : ℕ) → 1 / j ≤ 1
one_over j = div-le_self 1 j

pub product_lt : {a b : ℕ} → a < 65536 → b < 65536 → a * b < 4294967296
product_lt {a} {b} h k = let l : b ≤ 65535 = omega arith in omega (arith, mul-le-mul_left a l)
