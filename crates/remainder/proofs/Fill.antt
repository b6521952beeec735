-- The rows of a table, filled digit by digit.
use Rattle.general.proofs.Names.{◌≡◌, refl, sym, ap, ap₂, ◌∙◌, false, ◌||◌, List, ℕ, zero, suc, ◌+◌, ◌-◌, ◌*◌, ◌%◌, ◌^◌, ◌≤◌, ◌<◌, arith, lt-leb, dec_lt}
use Rattle.general.proofs.Names.{add-zero, add-one, T, eqb, leb, eqb→eq, length, get_or, bit_xor, xor_block, xor_shifted, xor_comm}
use lib.Pow.{pow_pos, pow-add}
use Rattle.field.specs.Field.{below, times_alpha}
use Rattle.field.proofs.Field.{Primitive, primitive, below_at}
use Rattle.field.proofs.Instances.{primitive_163}
use Rattle.remainder.specs.declared.Register.{Register}
use Rattle.remainder.specs.Words.{digits, behind, Zero, row_at, sum_of, double_of, doubled_of, none, Rows, Put, Extended, Filling, Bytewise, Shifts, Filled}
use Rattle.remainder.proofs.Digits.{digits_sum, behind_sum, digits_none, digits_next}
use Rattle.remainder.proofs.Alpha.{zero_double}
use Rattle.remainder.proofs.Steps.{empty_zero}
use Rattle.remainder.proofs.Places.{register_eq}

-- ---- sums of what is zero

pub zero_sum : (poly : ℕ) → Primitive poly → (x v w : ℕ) (r s : Register) → Zero poly x v r → Zero poly x w s → Zero poly x (bit_xor v w) (sum_of r s)
zero_sum poly P x v w r s y z =
    ap (λ (a : ℕ). behind poly x a (sum_of r s)) (digits_sum poly P x 4 0 0 v w) ∙ behind_sum poly P x (digits poly x 0 4 v) (digits poly x 0 4 w) r s ∙ ap₂ bit_xor y z

-- a digit below 2^b, and 2^b
two_parts : (f b k : ℕ) → f < 2 ^ b → bit_xor (f * 2 ^ k) (2 ^ b * 2 ^ k) ≡ (2 ^ b + f) * 2 ^ k
two_parts f b k h =
    let u = 2 ^ k in
    let one : 2 ^ b ≡ 1 * 2 ^ b = omega arith in
    ap₂ bit_xor (sym (add-zero (f * u))) (sym (add-zero (2 ^ b * u))) ∙ xor_block k f (2 ^ b) 0 0 (pow_pos k) (pow_pos k)
    ∙ ap (λ (y : ℕ). y * u + 0) (xor_comm f (2 ^ b) ∙ ap (λ (y : ℕ). bit_xor y f) one ∙ xor_shifted 1 b f h ∙ ap (λ (y : ℕ). y + f) (sym one)) ∙ add-zero ((2 ^ b + f) * u)

zero_none : (poly : ℕ) → Primitive poly → (x : ℕ) → Zero poly x 0 none
zero_none poly P x = ap (λ (y : ℕ). behind poly x y none) (digits_none poly P x 4) ∙ empty_zero poly P x

-- ---- one run of rows

module _ (at n : ℕ) (r : Register) (t₀ : List ℕ) where
  pub extended_start : Extended at n 0 r t₀ t₀
  extended_start = record { size = refl; new = λ f h. absurd (omega arith); below = λ m h. refl; above = λ m h. refl }

  pub extended_next : (k : ℕ) (row new : Register) (t t' : List ℕ) → Extended at n k r t₀ t → k < n → row ≡ row_at t (at + k) → new ≡ sum_of row r
      → Put (at + n + k) new t t'
      → Extended at n (k + 1) r t₀ t'
  extended_next k row new t t' E h e s p = record {
    size = p.size ∙ E.size;
    new = λ f l. elim (dec_lt f k) [
      | yes q ↦ p.other (at + n + f) (λ z. omega arith) ∙ E.new f q
      | no q ↦ let o : f ≡ k = omega arith in rw o (p.here ∙ s ∙ ap (λ (y : Register). sum_of y r) (e ∙ E.below (at + k) (omega arith)))
    ];
    below = λ m l. p.other m (λ z. omega arith) ∙ E.below m l;
    above = λ m l. p.other m (λ z. omega arith) ∙ E.above m (omega arith);
  }

-- ---- the rows of a digit

-- doubled within its byte, a bit of the digit i is the next bit
next_bit : T (below 8 (λ i. below 4 (λ b. leb 7 (b + 4 * (i % 2)) || eqb (double_of 0x163 4 (2 ^ b * 2 ^ (4 * i))) (2 ^ suc b * 2 ^ (4 * i)))))
unfolding below double_of times_alpha
next_bit = tt

bit_on : (i b : ℕ) → i < 8 → b < 4 → b + 1 + 4 * (i % 2) < 8 → double_of 0x163 4 (2 ^ b * 2 ^ (4 * i)) ≡ 2 ^ (b + 1) * 2 ^ (4 * i)
bit_on i b hi hb h =
    let n : leb 7 (b + 4 * (i % 2)) ≡ false = lt-leb 7 (b + 4 * (i % 2)) (omega arith) in
    let t : T (leb 7 (b + 4 * (i % 2)) || eqb (double_of 0x163 4 (2 ^ b * 2 ^ (4 * i))) (2 ^ suc b * 2 ^ (4 * i))) = below_at 4 _ (below_at 8 _ next_bit i hi) b hb in
    eqb→eq _ _ (rw n at t) ∙ ap (λ (m : ℕ). 2 ^ m * 2 ^ (4 * i)) (sym (add-one b))

-- the bit b of a digit
pub bit_of : (b : ℕ) → b < 4 → (1 * 2 ^ b % 2 ^ 64 ≡ 2 ^ b) × (2 ^ b ≤ 8)
bit_of zero h = (refl, omega arith)
bit_of (suc zero) h = (refl, omega arith)
bit_of (suc (suc zero)) h = (refl, omega arith)
bit_of (suc (suc (suc zero))) h = (refl, omega arith)
bit_of (suc (suc (suc (suc b)))) h = absurd (omega arith)

module _ (i : ℕ) (first : Register) (t₀ : List ℕ) (hi : i < 8) where
  P : Primitive 0x163
  P = primitive 0x163 primitive_163

  u : ℕ
  u = 2 ^ (4 * i)

  pub filling_start : row_at t₀ (16 * i) ≡ none → Filling i 0 first t₀ t₀ first
  filling_start e = record {
    size = refl;
    rows = λ x z f h. let o : f ≡ 0 = omega arith in
        let p : 0 * 2 ^ (4 * i) ≡ 0 = omega arith in
        let q : 16 * i + 0 ≡ 16 * i = omega arith in
        rw o (rw (p, q, e) (zero_none 0x163 P x));
    next = λ x z h. let p : 1 * 2 ^ (4 * i) ≡ 2 ^ (4 * i) = omega arith in rw p z;
    below = λ m h. refl;
    above = λ m h. refl;
  }

  pub filling_next : (b : ℕ) (r r' : Register) (t t' : List ℕ) → Filling i b first t₀ t r → b < 4 → Extended (16 * i) (2 ^ b) (2 ^ b) r t t' → r' ≡ doubled_of 0x163 r
      → Filling i (b + 1) first t₀ t' r'
  filling_next b r r' t t' F hb E e =
      let up : 2 ^ (b + 1) ≡ 2 ^ b + 2 ^ b = ap (λ (n : ℕ). 2 ^ n) (add-one b) ∙ omega arith in
      record {
        size = E.size ∙ F.size;
        rows = λ x z f h. elim (dec_lt f (2 ^ b)) [
          | yes l ↦ rw (E.below (16 * i + f) (omega arith)) (F.rows x z f l)
          | no l ↦ let g = f - 2 ^ b in
              let lg : g < 2 ^ b = omega arith in
              let o : 2 ^ b + g ≡ f = omega arith in
              let q : 16 * i + f ≡ 16 * i + 2 ^ b + g = omega arith in
              let n : row_at t' (16 * i + f) ≡ sum_of (row_at t (16 * i + g)) r = ap (row_at t') q ∙ E.new g lg in
              let m : bit_xor (g * 2 ^ (4 * i)) (2 ^ b * 2 ^ (4 * i)) ≡ f * 2 ^ (4 * i) = two_parts g b (4 * i) lg ∙ ap (λ (y : ℕ). y * 2 ^ (4 * i)) o in
              rw (n, ← m) (zero_sum 0x163 P x (g * 2 ^ (4 * i)) (2 ^ b * 2 ^ (4 * i)) (row_at t (16 * i + g)) r (F.rows x z g lg) (F.next x z (omega arith)))
        ];
        next = λ x z h. rw (e, ← (bit_on i b hi hb (omega arith))) (zero_double 0x163 P x (2 ^ b * 2 ^ (4 * i)) r (F.next x z (omega arith)));
        below = λ m h. E.below m (omega arith) ∙ F.below m h;
        above = λ m h. E.above m (omega arith) ∙ F.above m (omega arith);
      }

-- ---- the rows of a byte, and of all four

pub bytewise : (k : ℕ) (r n n' : Register) (t t₁ t₂ : List ℕ) → k < 4 → Filling (2 * k) 4 r t t₁ n → Filling (2 * k + 1) 4 n t₁ t₂ n' → Bytewise k r t t₂
bytewise k r n n' t t₁ t₂ h F G = record {
  size = G.size ∙ F.size;
  rows = λ x z i f a b l. elim (dec_lt i (2 * k + 1)) [
    | yes q ↦ let o : i ≡ 2 * k = omega arith in
        rw o (rw (G.below (16 * (2 * k) + f) (omega arith)) (F.rows x z f l))
    | no q ↦ let o : i ≡ 2 * k + 1 = omega arith in rw o (G.rows x (second x z) f l)
  ];
  below = λ m l. G.below m (omega arith) ∙ F.below m (omega arith);
  above = λ m l. G.above m (omega arith) ∙ F.above m (omega arith);
}
  where
    second : (x : ℕ) → Zero 0x163 x (2 ^ (4 * (2 * k))) r → Zero 0x163 x (2 ^ (4 * (2 * k + 1))) n
    second x z =
        let e : 4 * (2 * k + 1) ≡ 4 + 4 * (2 * k) = omega arith in
        rw (e, pow-add 2 4 (4 * (2 * k))) (F.next x z (omega arith))

pub filled_start : (g : Register) (t : List ℕ) → length t ≡ 512 → ((i : ℕ) → get_or t i 0 ≡ 0) → Filled 0 g t g
filled_start g t size z = record {
  size = size;
  rows = λ x y i f h. absurd (omega arith);
  free = λ m h. register_eq (z (4 * m)) (z (4 * m + 1)) (z (4 * m + 2)) (z (4 * m + 3));
  next = λ x y h. y;
}

pub filled_next : (k : ℕ) (g r n : Register) (t t' : List ℕ) → Filled k g t r → k < 4 → Bytewise k r t t' → Shifts t' 0 r n → Filled (k + 1) g t' n
filled_next k g r n t t' F h B S =
    let row : (x : ℕ) → Zero 0x163 x 1 g → (i f : ℕ) → i < 2 * (k + 1) → f < 16 → Zero 0x163 x (f * 2 ^ (4 * i)) (row_at t' (16 * i + f)) =
    λ x z i f a l. elim (dec_lt i (2 * k)) [
      | yes q ↦ rw (B.below (16 * i + f) (omega arith)) (F.rows x z i f q l)
      | no q ↦ B.rows x (F.next x z h) i f (omega arith) (omega arith) l
    ] in
    record {
      size = B.size ∙ F.size;
      rows = row;
      free = λ m l. B.above m (omega arith) ∙ F.free m (omega arith);
      next = λ x z l.
          let e : 4 * (2 * (k + 1)) ≡ 4 * (2 * k) + 8 = omega arith in
          let v = 2 ^ (4 * (2 * k)) in
          rw (e, pow-add 2 (4 * (2 * k)) 8)
          (ap (λ (a : ℕ). behind 0x163 x a n) (ap (digits 0x163 x 0 4) (sym (add-zero (v * 256)))
          ∙ digits_next 0x163 (primitive 0x163 primitive_163) x v 0 (small k (omega arith)) (omega arith))
          ∙ S.shifts 0x163 x (digits 0x163 x 0 4 v) primitive_163 (λ i f a b. row x z i f (omega arith) b) (F.next x z h));
    }
  where
    small : (k : ℕ) → k < 3 → 2 ^ (4 * (2 * k)) < 2 ^ 24
    small zero l = omega arith
    small (suc zero) l = omega arith
    small (suc (suc zero)) l = omega arith
    small (suc (suc (suc k))) l = absurd (omega arith)

pub filled_end : (k : ℕ) (g r : Register) (t : List ℕ) → Filled k g t r → k ≤ 4 → 4 ≤ k → (length t ≡ 512) × ((x : ℕ) → Zero 0x163 x 1 g → Rows 0x163 x t)
filled_end k g r t F a b = (F.size, λ x z. record { field = primitive_163; zero_at = λ i f l h. F.rows x z i f (omega arith) h })
