-- Horner's rule over the bytes of numbers and registers: sums, moves, and what is zero.
use Rattle.general.proofs.Names.{◌≡◌, refl, sym, ap, ap₂, ◌∙◌, ℕ, zero, suc, ◌+◌, ◌-◌, ◌*◌, ◌/◌, ◌%◌, ◌^◌, ◌<◌, arith, div-add-mod', mod-lt, bit_xor}
use Rattle.general.proofs.Names.{xor_shr, xor_mod}
use Rattle.field.specs.Field.{mul}
use Rattle.field.proofs.Xor.{xor_swap}
use Rattle.field.proofs.Field.{Primitive, mul_sum}
use Rattle.field.proofs.Entries.{mul_left_zero}
use Rattle.remainder.specs.declared.Register.{Register}
use Rattle.remainder.specs.Words.{digits, behind, sum_of, moved_of}

pow_up : (n : ℕ) → 256 ^ suc n ≡ 256 ^ n * 256
pow_up n = omega arith

pow_times : (h n : ℕ) → h * 256 ^ suc n ≡ h * 256 ^ n * 256
pow_times h n = ap (λ (y : ℕ). h * y) (pow_up n) ∙ omega arith

pow_pos : (n : ℕ) → 0 < 256 ^ n
pow_pos zero = omega arith
pow_pos (suc n) = omega (arith, pow_up n, pow_pos n)

module _ (poly : ℕ) (P : Primitive poly) (x : ℕ) where
  -- a sum goes through
  pub digits_sum : (n p q u w : ℕ) → digits poly x (bit_xor p q) n (bit_xor u w) ≡ bit_xor (digits poly x p n u) (digits poly x q n w)
  unfolding digits
  digits_sum zero p q u w = refl
  digits_sum (suc n) p q u w =
      ap₂ bit_xor
      (ap (λ (y : ℕ). mul poly y x) (ap (digits poly x (bit_xor p q) n) (xor_shr u w 8) ∙ digits_sum n p q (u / 256) (w / 256))
      ∙ mul_sum poly P (digits poly x p n (u / 256)) (digits poly x q n (w / 256)) x)
      (xor_mod u w 8)
      ∙ xor_swap (mul poly (digits poly x p n (u / 256)) x) (mul poly (digits poly x q n (w / 256)) x) (u % 256) (w % 256)

  pub behind_sum : (p q : ℕ) (r s : Register) → behind poly x (bit_xor p q) (sum_of r s) ≡ bit_xor (behind poly x p r) (behind poly x q s)
  unfolding behind
  behind_sum p q r s =
      ap (λ (y : ℕ). digits poly x (digits poly x (digits poly x y 8 (bit_xor r.b s.b)) 8 (bit_xor r.c s.c)) 8 (bit_xor r.d s.d))
      (digits_sum 8 p q r.a s.a)
      ∙ ap (λ (y : ℕ). digits poly x (digits poly x y 8 (bit_xor r.c s.c)) 8 (bit_xor r.d s.d))
      (digits_sum 8 (digits poly x p 8 r.a) (digits poly x q 8 s.a) r.b s.b)
      ∙ ap (λ (y : ℕ). digits poly x y 8 (bit_xor r.d s.d)) (digits_sum 8 (digits poly x (digits poly x p 8 r.a) 8 r.b)
      (digits poly x (digits poly x q 8 s.a) 8 s.b) r.c s.c)
      ∙ digits_sum 8 (digits poly x (digits poly x (digits poly x p 8 r.a) 8 r.b) 8 r.c)
      (digits poly x (digits poly x (digits poly x q 8 s.a) 8 s.b) 8 s.c) r.d s.d

  -- the n bytes behind m others
  pub digits_split : (n m acc h l : ℕ) → l < 256 ^ m → digits poly x acc (n + m) (h * 256 ^ m + l) ≡ digits poly x (digits poly x acc n h) m l
  unfolding digits
  digits_split n zero acc h l hl =
      let e : h * 256 ^ 0 + l ≡ h = omega arith in
      let o : n + 0 ≡ n = omega arith in
      ap₂ (digits poly x acc) o e
  digits_split n (suc m) acc h l hl =
      let t : h * 256 ^ suc m ≡ h * 256 ^ m * 256 = pow_times h m in
      let k : l / 256 < 256 ^ m = omega arith in
      let e : (h * 256 ^ suc m + l) / 256 ≡ h * 256 ^ m + l / 256 = omega arith in
      let f : (h * 256 ^ suc m + l) % 256 ≡ l % 256 = omega arith in
      let o : n + suc m ≡ suc (n + m) = omega arith in
      ap (λ (k : ℕ). digits poly x acc k (h * 256 ^ suc m + l)) o
      ∙ ap₂ bit_xor (ap (λ (y : ℕ). mul poly y x) (ap (digits poly x acc (n + m)) e ∙ digits_split n m acc h (l / 256) k)) f

  -- nothing followed by nothing
  pub digits_none : (n : ℕ) → digits poly x 0 n 0 ≡ 0
  unfolding digits
  digits_none zero = refl
  digits_none (suc n) = ap (λ (y : ℕ). bit_xor (mul poly y x) 0) (digits_none n) ∙ ap (λ (y : ℕ). bit_xor y 0) (mul_left_zero poly x)

  pub one_digit : (acc h : ℕ) → h < 256 → digits poly x acc 1 h ≡ bit_xor (mul poly acc x) h
  unfolding digits
  one_digit acc h lh = let q : h % 256 ≡ h = omega arith in ap (bit_xor (mul poly acc x)) q

  -- zeros in front of m bytes
  pub digits_low : (n m v : ℕ) → v < 256 ^ m → digits poly x 0 (n + m) v ≡ digits poly x 0 m v
  digits_low n m v h = let e : v ≡ 0 * 256 ^ m + v = omega arith in ap (digits poly x 0 (n + m)) e ∙ digits_split n m 0 0 v h
      ∙ ap (λ (y : ℕ). digits poly x y m v) (digits_none n)

  -- one byte more behind fewer than four
  pub digits_next : (v h : ℕ) → v < 16777216 → h < 256 → digits poly x 0 4 (v * 256 + h) ≡ bit_xor (mul poly (digits poly x 0 4 v) x) h
  digits_next v h lv lh = digits_split 3 1 0 v h lh ∙ one_digit (digits poly x 0 3 v) h lh ∙ ap (λ (y : ℕ). bit_xor (mul poly y x) h) (sym (digits_low 1 3 v lv))

  -- a word moved up by n of its n + m bytes: those that leave it stand before it, and others come in behind
  word_moved : (n m e w v : ℕ) → v < 256 ^ n → w % 256 ^ m < 256 ^ m
      → digits poly x (digits poly x e n (w / 256 ^ m)) (m + n) (w % 256 ^ m * 256 ^ n + v) ≡ digits poly x (digits poly x e (n + m) w) n v
  word_moved n m e w v lv lm =
      digits_split m n (digits poly x e n (w / 256 ^ m)) (w % 256 ^ m) v lv
      ∙ ap (λ (y : ℕ). digits poly x y n v) (sym (digits_split n m e (w / 256 ^ m) (w % 256 ^ m) lm) ∙ ap (digits poly x e (n + m)) (div-add-mod' w (256 ^ m)))

  -- a register moved up by n of its 32 bytes
  pub behind_moved : (n m e : ℕ) (r : Register) → n + m ≡ 8 → r.b / 256 ^ m < 256 ^ n → r.c / 256 ^ m < 256 ^ n → r.d / 256 ^ m < 256 ^ n
      → behind poly x (digits poly x e n (r.a / 256 ^ m)) (moved_of n m r) ≡ digits poly x (behind poly x e r) n 0
  unfolding behind
  behind_moved n m e r q lb lc ld =
      let o : m + n ≡ 8 = omega arith in
      let one : (f w v : ℕ) → v < 256 ^ n → digits poly x (digits poly x f n (w / 256 ^ m)) 8 (w % 256 ^ m * 256 ^ n + v) ≡ digits poly x (digits poly x f 8 w) n v =
      λ f w v lv. ap (λ (k : ℕ). digits poly x (digits poly x f n (w / 256 ^ m)) k (w % 256 ^ m * 256 ^ n + v)) (sym o)
      ∙ word_moved n m f w v lv (mod-lt w (pow_pos m)) ∙ ap (λ (k : ℕ). digits poly x (digits poly x f k w) n v) q in
      ap (λ (y : ℕ). digits poly x (digits poly x (digits poly x y 8 (moved_of n m r).b) 8 (moved_of n m r).c) 8 (moved_of n m r).d) (one e r.a (r.b / 256 ^ m) lb)
      ∙ ap (λ (y : ℕ). digits poly x (digits poly x y 8 (moved_of n m r).c) 8 (moved_of n m r).d) (one (digits poly x e 8 r.a) r.b (r.c / 256 ^ m) lc)
      ∙ ap (λ (y : ℕ). digits poly x y 8 (moved_of n m r).d) (one (digits poly x (digits poly x e 8 r.a) 8 r.b) r.c (r.d / 256 ^ m) ld)
      ∙ one (digits poly x (digits poly x (digits poly x e 8 r.a) 8 r.b) 8 r.c) r.d 0 (pow_pos n)
