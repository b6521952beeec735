-- A step of the division: four bytes leave the register, four come in, and the rows of those that left are added.
use Rattle.general.proofs.Names.{◌≡◌, refl, sym, ap, ap₂, ◌∙◌, List, [], ◌∷◌, ℕ, zero, suc, ◌+◌, ◌-◌, ◌*◌, ◌/◌, ◌%◌, ◌^◌, ◌≤◌, ◌<◌, arith, mod-lt}
use Rattle.general.proofs.Names.{T, length, get_or, take, bit_xor, xor_comm, xor_self, xor_zero_l, xor_zero_r, xor_shifted, xor_lt}
use lib.Pow.{mod-pow-add, pow_pos}
use Rattle.field.specs.Field.{mul, order_test}
use Rattle.field.proofs.Field.{Primitive, primitive}
use Rattle.field.proofs.Instances.{primitive_163}
use Rattle.field.proofs.Xor.{xor_assoc}
use Rattle.reed_solomon.specs.Block.{eval_from}
use Rattle.remainder.specs.declared.Register.{Register}
use Rattle.remainder.specs.Words.{digits, behind, Zero, row_at, sum_of, moved_of, Rows, Adds, Keeps, Left, ByteRows, Shifts}
use Rattle.remainder.proofs.Digits.{digits_sum, behind_sum, behind_moved, digits_none, digits_low, one_digit}

-- the low i + 1 hexadecimal digits
low_next : (x i : ℕ) → bit_xor (x % 2 ^ (4 * i)) (x / 2 ^ (4 * i) % 16 * 2 ^ (4 * i)) ≡ x % 2 ^ (4 * (i + 1))
low_next x i =
    let e : 4 * (i + 1) ≡ 4 + 4 * i = omega arith in
    xor_comm (x % 2 ^ (4 * i)) (x / 2 ^ (4 * i) % 16 * 2 ^ (4 * i))
    ∙ xor_shifted (x / 2 ^ (4 * i) % 16) (4 * i) (x % 2 ^ (4 * i)) (mod-lt x (pow_pos (4 * i)))
    ∙ sym (ap (λ (n : ℕ). x % 2 ^ n) e ∙ mod-pow-add x 4 (4 * i))

module _ (poly : ℕ) (P : Primitive poly) (x : ℕ) where
  -- the row of one more digit of y, where m bytes are read
  add_row : (m e h y i : ℕ) (n row : Register) → behind poly x (digits poly x 0 m (y / 2 ^ (4 * i) % 16 * 2 ^ (4 * i))) row ≡ 0
      → behind poly x (digits poly x e m (bit_xor h (y % 2 ^ (4 * i)))) n ≡ 0 → behind poly x (digits poly x e m (bit_xor h (y % 2 ^ (4 * (i + 1))))) (sum_of n row) ≡ 0
  add_row m e h y i n row w z =
      let f = y / 2 ^ (4 * i) % 16 in
      let lo = y % 2 ^ (4 * i) in
      let s = rw xor_zero_r at (digits_sum poly P x m e 0 (bit_xor h lo) (f * 2 ^ (4 * i))) in
      rw (← (low_next y i), ← (xor_assoc h lo (f * 2 ^ (4 * i))), s)
      (behind_sum poly P x (digits poly x e m (bit_xor h lo)) (digits poly x 0 m (f * 2 ^ (4 * i))) n row ∙ ap₂ bit_xor z w)

module _ (poly x : ℕ) (t : List ℕ) (R : Rows poly x t) where
  P : Primitive poly
  P = primitive poly R.field

  pub add_next : (e h y i : ℕ) (n : Register) → i < 8 → behind poly x (digits poly x e 4 (bit_xor h (y % 2 ^ (4 * i)))) n ≡ 0
      → behind poly x (digits poly x e 4 (bit_xor h (y % 2 ^ (4 * (i + 1))))) (sum_of n (row_at t (16 * i + y / 2 ^ (4 * i) % 16))) ≡ 0
  add_next e h y i n li z = add_row poly P x 4 e h y i n (row_at t (16 * i + y / 2 ^ (4 * i) % 16)) (R.zero_at i (y / 2 ^ (4 * i) % 16) li (omega arith)) z

  moved_on : (e : ℕ) (r : Register) → r.b < 2 ^ 64 → r.c < 2 ^ 64 → r.d < 2 ^ 64 → behind poly x e r ≡ 0
      → behind poly x (digits poly x e 4 (r.a / 2 ^ 32)) (moved_of 4 4 r) ≡ 0
  moved_on e r lb lc ld z =
      behind_moved poly P x 4 4 e r refl (omega arith) (omega arith) (omega arith)
      ∙ ap (λ (a : ℕ). digits poly x a 4 0) z ∙ digits_none poly P x 4

-- the digits of no byte, and of all four
pub no_digits : (h y : ℕ) → bit_xor h (y % 2 ^ (4 * 0)) ≡ h
no_digits h y = let o : y % 1 ≡ 0 = omega arith in ap (bit_xor h) o ∙ xor_zero_r h

pub all_digits : (y i : ℕ) → i ≤ 8 → 8 ≤ i → y < 2 ^ 32 → y % 2 ^ (4 * i) ≡ y
all_digits y i a b l =
    let e : 4 * i ≡ 32 = omega arith in
    let m : y % 4294967296 ≡ y = omega arith in rw e m

back : (h v : ℕ) → bit_xor h (bit_xor h v) ≡ v
back h v = sym (xor_assoc h h v) ∙ ap (λ (a : ℕ). bit_xor a v) (xor_self h) ∙ xor_zero_l v

-- one byte more of a block
pub eval_next : (poly x acc : ℕ) (xs : List ℕ) (i n : ℕ) → n ≡ suc i → i < length xs
    → eval_from poly x acc (take n xs) ≡ bit_xor (mul poly (eval_from poly x acc (take i xs)) x) (get_or xs i 0)
unfolding eval_from
eval_next poly x acc xs i n e h = rw e (go acc xs i h)
  where
    go : (acc : ℕ) (xs : List ℕ) (i : ℕ) → i < length xs → eval_from poly x acc (take (suc i) xs) ≡ bit_xor (mul poly (eval_from poly x acc (take i xs)) x) (get_or xs i 0)
    go acc [] i h = absurd (omega arith)
    go acc (b ∷ bs) zero h = refl
    go acc (b ∷ bs) (suc i) h = go (bit_xor (mul poly acc x) b) bs i (omega arith)

-- four bytes more
pub eval_four : (poly x : ℕ) (xs : List ℕ) (i v : ℕ) → i + 4 ≤ length xs → ((j : ℕ) → get_or xs j 0 < 256)
    → v ≡ get_or xs i 0 * 16777216 + get_or xs (i + 1) 0 * 65536 + get_or xs (i + 2) 0 * 256 + get_or xs (i + 3) 0
    → digits poly x (eval_from poly x 0 (take i xs)) 4 v ≡ eval_from poly x 0 (take (i + 4) xs)
unfolding digits
eval_four poly x xs i v h bs e =
    let l₀ : get_or xs i 0 < 256 = bs i in
    let l₁ : get_or xs (i + 1) 0 < 256 = bs (i + 1) in
    let l₂ : get_or xs (i + 2) 0 < 256 = bs (i + 2) in
    let l₃ : get_or xs (i + 3) 0 < 256 = bs (i + 3) in
    let r₃ : v % 256 ≡ get_or xs (i + 3) 0 = omega arith in
    let q₃ : v / 256 ≡ get_or xs i 0 * 65536 + get_or xs (i + 1) 0 * 256 + get_or xs (i + 2) 0 = omega arith in
    let q₂ : v / 256 / 256 ≡ get_or xs i 0 * 256 + get_or xs (i + 1) 0 = ap (λ (y : ℕ). y / 256) q₃ ∙ omega arith in
    let q₁ : v / 256 / 256 / 256 ≡ get_or xs i 0 = ap (λ (y : ℕ). y / 256) q₂ ∙ omega arith in
    let r₂ : v / 256 % 256 ≡ get_or xs (i + 2) 0 = ap (λ (y : ℕ). y % 256) q₃ ∙ omega arith in
    let r₁ : v / 256 / 256 % 256 ≡ get_or xs (i + 1) 0 = ap (λ (y : ℕ). y % 256) q₂ ∙ omega arith in
    let r₀ : v / 256 / 256 / 256 % 256 ≡ get_or xs i 0 = ap (λ (y : ℕ). y % 256) q₁ ∙ omega arith in
    let one : (a b : ℕ) (j n : ℕ) → n ≡ suc j → j < length xs → a ≡ eval_from poly x 0 (take j xs) → b ≡ get_or xs j 0
    → bit_xor (mul poly a x) b ≡ eval_from poly x 0 (take n xs) =
    λ a b j n o l p q. ap₂ (λ (y z : ℕ). bit_xor (mul poly y x) z) p q ∙ sym (eval_next poly x 0 xs j n o l) in
    one _ _ (i + 3) (i + 4) (omega arith) (omega arith)
    (one _ _ (i + 2) (i + 3) (omega arith) (omega arith) (one _ _ (i + 1) (i + 2) (omega arith) (omega arith)
    (one _ _ i (i + 1) (omega arith) (omega arith) refl r₀) r₁) r₂) r₃

-- nothing followed by nothing
pub empty_zero : (poly : ℕ) → Primitive poly → (x : ℕ) → behind poly x 0 (record { a = 0; b = 0; c = 0; d = 0 }) ≡ 0
unfolding behind
empty_zero poly P x = simp (digits_none poly P x 8)

-- nothing read
pub left_none : (Root : ℕ → Type 0) (block : List ℕ) → Left Root 0 block (record { a = 0; b = 0; c = 0; d = 0 })
unfolding eval_from
left_none Root block = record { zero_at = λ x R. empty_zero 0x163 (primitive 0x163 primitive_163) x }

-- the rows of the last byte are some of those of four
pub left_rows : (t block : List ℕ) (k : ℕ) (r : Register) → Left (λ x. ByteRows 0x163 x t) k block r → Left (λ x. Rows 0x163 x t) k block r
left_rows t block k r L = record { zero_at = λ x R. L.zero_at x (λ i f a b. R.zero_at i f (omega arith) b) }

pub left_next : (t block : List ℕ) (i v : ℕ) (r n : Register) → Left (λ x. Rows 0x163 x t) i block r → i + 4 ≤ length block → ((j : ℕ) → get_or block j 0 < 256)
    → v ≡ get_or block i 0 * 16777216 + get_or block (i + 1) 0 * 65536 + get_or block (i + 2) 0 * 256 + get_or block (i + 3) 0 → Keeps t v r n
    → Left (λ x. Rows 0x163 x t) (i + 4) block n
left_next t block i v r n L h bs e K = record {
  zero_at = λ x R. ap (λ (e : ℕ). behind 0x163 x e n) (sym (eval_four 0x163 x block i v h bs e))
      ∙ K.keeps 0x163 x (eval_from 0x163 x 0 (take i block)) R (L.zero_at x R);
}

-- one byte more
pub left_byte : (t block : List ℕ) (i v : ℕ) (r n : Register) → Left (λ x. ByteRows 0x163 x t) i block r → i < length block → v ≡ get_or block i 0 → Shifts t v r n
    → Left (λ x. ByteRows 0x163 x t) (i + 1) block n
left_byte t block i v r n L h e S = record {
  zero_at = λ x R. ap (λ (a : ℕ). behind 0x163 x a n) (eval_next 0x163 x 0 block i (i + 1) (omega arith) h
      ∙ ap (bit_xor (mul 0x163 (eval_from 0x163 x 0 (take i block)) x)) (sym e))
      ∙ S.shifts 0x163 x (eval_from 0x163 x 0 (take i block)) primitive_163 R (L.zero_at x R);
}

-- four bytes leave a register, v comes in, and the rows of their sum y are added
pub step_on : (t : List ℕ) (v y : ℕ) (r m n : Register) → r.b < 2 ^ 64 → r.c < 2 ^ 64 → r.d < 2 ^ 64 → m ≡ moved_of 4 4 r → Adds t y m n
    → y ≡ bit_xor (r.a / 2 ^ 32) v → Keeps t v r n
step_on t v y r m n lb lc ld moved A is = record {
  keeps = λ poly x e R z. let h = r.a / 2 ^ 32 in
      ap (λ (a : ℕ). behind poly x (digits poly x e 4 a) n) (sym (ap (bit_xor h) is ∙ back h v))
      ∙ A.adds poly x e h R (ap (behind poly x (digits poly x e 4 h)) moved ∙ moved_on poly x t R e r lb lc ld z);
}

-- one byte leaves a register, v comes in, and the two rows of their sum y are added
pub shift_on : (t : List ℕ) (v y : ℕ) (r m n₁ n₂ : Register) → v < 256 → r.a < 2 ^ 64 → r.b < 2 ^ 64 → r.c < 2 ^ 64 → r.d < 2 ^ 64 → m ≡ moved_of 1 7 r
    → n₁ ≡ sum_of m (row_at t (16 * 0 + y / 2 ^ (4 * 0) % 16)) → n₂ ≡ sum_of n₁ (row_at t (16 * 1 + y / 2 ^ (4 * 1) % 16)) → y ≡ bit_xor (r.a / 2 ^ 56) v → Shifts t v r n₂
shift_on t v y r m n₁ n₂ lv la lb lc ld moved first second is = record { shifts = on }
  where
    h : ℕ
    h = r.a / 2 ^ 56

    last : bit_xor h (y % 2 ^ (4 * 2)) ≡ v
    last =
        let ly : y < 256 = omega (arith, is, xor_lt 8 (r.a / 2 ^ 56) v (omega arith) lv) in
        let o : y % 256 ≡ y = omega arith in
        ap (bit_xor h) (o ∙ is) ∙ back h v

    on : (poly x e : ℕ) → T (order_test poly) → ByteRows poly x t → behind poly x e r ≡ 0 → behind poly x (bit_xor (mul poly e x) v) n₂ ≡ 0
    on poly x e test rows z =
        let P : Primitive poly = primitive poly test in
        let one : (f : ℕ) (row : Register) → f < 256 → Zero poly x f row → behind poly x (digits poly x 0 1 f) row ≡ 0 =
        λ f row l w. ap (λ (a : ℕ). behind poly x a row) (sym (digits_low poly P x 3 1 f l)) ∙ w in
        let z₀ : behind poly x (digits poly x e 1 (bit_xor h (y % 2 ^ (4 * 0)))) m ≡ 0 =
        ap₂ (λ (a : ℕ) (b : Register). behind poly x (digits poly x e 1 a) b) (no_digits h y) moved
        ∙ behind_moved poly P x 1 7 e r refl (omega arith) (omega arith) (omega arith) ∙ ap (λ (a : ℕ). digits poly x a 1 0) z ∙ digits_none poly P x 1 in
        let z₁ : behind poly x (digits poly x e 1 (bit_xor h (y % 2 ^ (4 * 1)))) n₁ ≡ 0 =
        ap (behind poly x (digits poly x e 1 (bit_xor h (y % 2 ^ (4 * 1))))) first
        ∙ add_row poly P x 1 e h y 0 m (row_at t (16 * 0 + y / 2 ^ (4 * 0) % 16)) (one _ _ (omega arith) (rows 0 (y / 2 ^ (4 * 0) % 16) (omega arith) (omega arith))) z₀ in
        ap₂ (behind poly x) (sym (one_digit poly P x e v lv) ∙ ap (digits poly x e 1) (sym last)) second
        ∙ add_row poly P x 1 e h y 1 n₁ (row_at t (16 * 1 + y / 2 ^ (4 * 1) % 16)) (one _ _ (omega arith) (rows 1 (y / 2 ^ (4 * 1) % 16) (omega arith) (omega arith))) z₁
