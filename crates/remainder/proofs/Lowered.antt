-- The bytes of a register, and the syndromes of a block out of them.
use Rattle.general.proofs.Names.{◌≡◌, refl, sym, ap, ap₂, ◌∙◌, List, ℕ, zero, suc, ◌+◌, ◌-◌, ◌*◌, ◌/◌, ◌%◌, ◌^◌, ◌≤◌, ◌<◌, arith, dec_lt, add-zero, add-mul}
use Rattle.general.proofs.Names.{suc-mul, length, take, get_or-eq_default, length-take-le, get_or-take, bit_xor, xor_zero_l, xor_zero_r}
use lib.Pow.{shr-shr}
use Rattle.field.specs.Field.{raised, mul, power}
use Rattle.field.proofs.Field.{Primitive, primitive, mul_assoc, mul_one, mul_power, power_period, mul_lt}
use Rattle.field.proofs.Instances.{primitive_163}
use Rattle.field.proofs.Entries.{mul_left_zero}
use Rattle.reed_solomon.specs.Sum.{◌⊕◌, seq, horner}
use Rattle.reed_solomon.proofs.Sum.{add_zero_eq}
use Rattle.reed_solomon.proofs.Horner.{horner_ext, horner_lt}
use Rattle.reed_solomon.specs.Block.{eval}
use Rattle.reed_solomon.specs.Inner.{Syndromes}
use Rattle.general.specs.Each.{Each}
use Rattle.reed_solomon.proofs.Codeword.{eval_horner}
use Rattle.remainder.specs.declared.Register.{Register}
use Rattle.remainder.specs.Words.{digits, behind, none, word_at, byte_at, Kept, Remains, Leaves, Left, IsTabled}
use Rattle.remainder.proofs.Digits.{behind_sum}
use Rattle.remainder.proofs.Places.{register_eq}
use Rattle.remainder.proofs.Steps.{empty_zero}

-- Horner's rule over a word is that over its bytes, behind m others
digits_horner : (poly x : ℕ) (f : ℕ → ℕ) (m n w : ℕ) → ((k : ℕ) → k < n → f (m + k) ≡ w / 2 ^ (8 * (n - suc k)) % 256)
    → digits poly x (horner poly f x m) n w ≡ horner poly f x (m + n)
unfolding digits horner
digits_horner poly x f m zero w h = ap (horner poly f x) (sym (add-zero m))
digits_horner poly x f m (suc n) w h =
    let o : m + suc n ≡ suc (m + n) = omega arith in
    let last : f (m + n) ≡ w % 256 = h n (omega arith) ∙ (let e : 8 * (suc n - suc n) ≡ 0 = omega arith in let q : w / 1 ≡ w = omega arith in
    ap (λ (k : ℕ). w / 2 ^ k % 256) e ∙ ap (λ (y : ℕ). y % 256) q) in
    ap₂ (λ (y z : ℕ). mul poly y x ⊕ z)
    (digits_horner poly x f m n (w / 256) (λ k l. h k (omega arith) ∙ (let e : 8 * (suc n - suc k) ≡ 8 + 8 * (n - suc k) = omega arith in
    ap (λ (i : ℕ). w / 2 ^ i % 256) e ∙ ap (λ (y : ℕ). y % 256) (sym (shr-shr w 8 (8 * (n - suc k))))))) (sym last)
    ∙ ap (horner poly f x) (sym o)

-- the byte k of the word j
byte_in : (r : Register) (j k : ℕ) → k < 8 → byte_at r (8 * j + k) ≡ word_at r j / 2 ^ (8 * (8 - suc k)) % 256
byte_in r j k h =
    let q : (8 * j + k) / 8 ≡ j = omega arith in
    let o : 56 - 8 * ((8 * j + k) % 8) ≡ 8 * (8 - suc k) = omega arith in
    ap₂ (λ (a b : ℕ). word_at r a / 2 ^ b % 256) q o

behind_horner : (poly x : ℕ) (r : Register) → behind poly x 0 r ≡ horner poly (byte_at r) x 32
unfolding behind horner word_at
behind_horner poly x r =
    let f = byte_at r in
    rw (digits_horner poly x f 0 8 r.a (byte_in r 0), digits_horner poly x f 8 8 r.b (byte_in r 1), digits_horner poly x f 16 8 r.c (byte_in r 2))
    (digits_horner poly x f 24 8 r.d (byte_in r 3))

pub bytes_value : (poly x : ℕ) (r : Register) (s : List ℕ) → length s ≡ 32 → ((i : ℕ) → i < 32 → seq s i ≡ byte_at r i) → eval poly x s ≡ behind poly x 0 r
bytes_value poly x r s e h = eval_horner poly x s ∙ ap (horner poly (seq s) x) e ∙ horner_ext poly (seq s) (byte_at r) x 32 h ∙ sym (behind_horner poly x r)

pub power_first : (poly : ℕ) → power poly 0 ≡ 1
unfolding raised
power_first poly = refl

module _ (poly : ℕ) (P : Primitive poly) (m : ℕ) where
  -- n zeros behind a value
  digits_zeros : (e n : ℕ) → e < 256 → digits poly (power poly m) e n 0 ≡ mul poly e (power poly (n * m))
  unfolding digits
  digits_zeros e zero h = let q : e % 256 ≡ e = omega arith in let o : 0 * m ≡ 0 = omega arith in sym (ap (λ (k : ℕ). mul poly e (power poly k)) o ∙ one ∙ q)
    where
      one : mul poly e (power poly 0) ≡ e % 256
      one = ap (mul poly e) (power_first poly) ∙ mul_one poly P e
  digits_zeros e (suc n) h =
      let o : n * m + m ≡ suc n * m = omega (arith, suc-mul n m) in
      ap (λ (y : ℕ). bit_xor (mul poly y (power poly m)) 0) (digits_zeros e n h) ∙ xor_zero_r (mul poly (mul poly e (power poly (n * m))) (power poly m))
      ∙ mul_assoc poly P e (power poly (n * m)) (power poly m) ∙ ap (mul poly e) (mul_power poly P (n * m) m ∙ ap (power poly) o)

  behind_zeros : (e : ℕ) → e < 256 → behind poly (power poly m) e none ≡ mul poly e (power poly (32 * m))
  unfolding behind
  behind_zeros e h =
      let d = digits poly (power poly m) in
      let p = power poly (8 * m) in
      let lt : (a : ℕ) → mul poly a p < 256 = λ a. mul_lt poly P a p in
      let two : (a b : ℕ) → mul poly (mul poly e (power poly a)) (power poly b) ≡ mul poly e (power poly (a + b)) =
      λ a b. mul_assoc poly P e (power poly a) (power poly b) ∙ ap (mul poly e) (mul_power poly P a b) in
      let o : 8 * m + 8 * m + 8 * m + 8 * m ≡ 32 * m = omega arith in
      ap (λ (y : ℕ). d (d (d y 8 0) 8 0) 8 0) (digits_zeros e 8 h)
      ∙ ap (λ (y : ℕ). d (d y 8 0) 8 0) (digits_zeros (mul poly e p) 8 (lt e) ∙ two (8 * m) (8 * m))
      ∙ ap (λ (y : ℕ). d y 8 0) (digits_zeros (mul poly e (power poly (8 * m + 8 * m))) 8 (mul_lt poly P e (power poly (8 * m + 8 * m))) ∙ two (8 * m + 8 * m) (8 * m))
      ∙ digits_zeros (mul poly e (power poly (8 * m + 8 * m + 8 * m))) 8 (mul_lt poly P e (power poly (8 * m + 8 * m + 8 * m)))
      ∙ two (8 * m + 8 * m + 8 * m) (8 * m) ∙ ap (λ (k : ℕ). mul poly e (power poly k)) o

  -- a value in front of a register
  pub behind_from : (e : ℕ) (r : Register) → e < 256 → behind poly (power poly m) e r ≡ bit_xor (mul poly e (power poly (32 * m))) (behind poly (power poly m) 0 r)
  behind_from e r h =
      let x = power poly m in
      sym (ap₂ (behind poly x) (xor_zero_r e) (register_eq (xor_zero_l r.a) (xor_zero_l r.b) (xor_zero_l r.c) (xor_zero_l r.d)))
      ∙ behind_sum poly P x e 0 none r ∙ ap (λ (y : ℕ). bit_xor y (behind poly x 0 r)) (behind_zeros e h)

  -- the value of a block out of that of its remainder
  pub lowered : (e : ℕ) (r : Register) → e < 256 → behind poly (power poly m) e r ≡ 0 → e ≡ mul poly (behind poly (power poly m) 0 r) (power poly (223 * m))
  lowered e r h z =
      let x = power poly m in
      let apart : bit_xor (mul poly e (power poly (32 * m))) (behind poly x 0 r) ≡ 0 = sym (behind_from e r h) ∙ z in
      let o : 32 * m + 223 * m ≡ 255 * m + 0 = omega arith in
      let q : e % 256 ≡ e = omega arith in
      sym (ap (λ (y : ℕ). mul poly y (power poly (223 * m))) (sym (add_zero_eq (mul poly e (power poly (32 * m))) (behind poly x 0 r) apart))
      ∙ mul_assoc poly P e (power poly (32 * m)) (power poly (223 * m))
      ∙ ap (mul poly e) (mul_power poly P (32 * m) (223 * m) ∙ ap (power poly) o ∙ power_period poly P m 0 ∙ power_first poly) ∙ mul_one poly P e ∙ q)

  pub none_left : (e : ℕ) → e < 256 → behind poly (power poly m) e none ≡ 0 → e ≡ 0
  none_left e h z = lowered e none h z ∙ ap (λ (y : ℕ). mul poly y (power poly (223 * m))) (empty_zero poly P (power poly m)) ∙ mul_left_zero poly (power poly (223 * m))

-- zeros behind k bytes
horner_zeros : (poly : ℕ) → Primitive poly → (m : ℕ) (f : ℕ → ℕ) (k n : ℕ) → ((i : ℕ) → f i < 256) → ((i : ℕ) → k ≤ i → i < k + n → f i ≡ 0)
    → horner poly f (power poly m) (k + n) ≡ mul poly (horner poly f (power poly m) k) (power poly (n * m))
unfolding horner
horner_zeros poly P m f k zero bs z =
    let o : k + 0 ≡ k = omega arith in
    let q : 0 * m ≡ 0 = omega arith in
    let h = horner poly f (power poly m) k in
    let l : h < 256 = horner_lt poly P f (power poly m) k bs in
    let r : h % 256 ≡ h = omega arith in
    ap (horner poly f (power poly m)) o ∙ sym (ap (λ (e : ℕ). mul poly h (power poly e)) q ∙ ap (mul poly h) (power_first poly) ∙ mul_one poly P h ∙ r)
horner_zeros poly P m f k (suc n) bs z =
    let x = power poly m in
    let h = horner poly f x k in
    let o : k + suc n ≡ suc (k + n) = omega arith in
    let q : n * m + m ≡ suc n * m = omega (arith, suc-mul n m) in
    ap (horner poly f x) o
    ∙ ap₂ (λ (y w : ℕ). mul poly y x ⊕ w) (horner_zeros poly P m f k n bs (λ i a b. z i a (omega arith))) (z (k + n) (omega arith) (omega arith))
    ∙ xor_zero_r (mul poly (mul poly h (power poly (n * m))) x) ∙ mul_assoc poly P h (power poly (n * m)) x
    ∙ ap (mul poly h) (mul_power poly P (n * m) m ∙ ap (power poly) q)

-- the value of a block out of the first k bytes of its remainder
lowered_kept : (poly : ℕ) → Primitive poly → (m e k : ℕ) (r : Register) → e < 256 → Kept r k → behind poly (power poly m) e r ≡ 0
    → e ≡ mul poly (horner poly (byte_at r) (power poly m) k) (power poly ((255 - k) * m))
lowered_kept poly P m e k r l K z =
    let x = power poly m in
    let h = horner poly (byte_at r) x k in
    let o : k + (32 - k) ≡ 32 = omega (arith, K.few) in
    let q : (32 - k) * m + 223 * m ≡ (255 - k) * m = sym (add-mul (32 - k) 223 m) ∙ ap (λ (n : ℕ). n * m) (let w : 32 - k + 223 ≡ 255 - k = omega (arith, K.few) in w) in
    lowered poly P m e r l z
    ∙ ap (λ (y : ℕ). mul poly y (power poly (223 * m)))
    (behind_horner poly x r ∙ ap (horner poly (byte_at r) x) (sym o)
    ∙ horner_zeros poly P m (byte_at r) k (32 - k) (λ i. omega arith) (λ i a b. K.zeros i a (omega (arith, K.few))))
    ∙ mul_assoc poly P h (power poly ((32 - k) * m)) (power poly (223 * m)) ∙ ap (mul poly h) (mul_power poly P ((32 - k) * m) (223 * m) ∙ ap (power poly) q)

pub reduced_power : (poly : ℕ) → Primitive poly → (n : ℕ) → power poly (n % 255) ≡ power poly n
reduced_power poly P n = let e : 255 * (n / 255) + n % 255 ≡ n = omega arith in sym (power_period poly P (n / 255) (n % 255)) ∙ ap (power poly) e

pub syndromes_left : (poly : ℕ) → Primitive poly → (first parity k : ℕ) (block : List ℕ) (r : Register) (b s s' : List ℕ) → Remains poly first parity block r → Kept r k
    → length b ≡ 32 → ((i : ℕ) → i < 32 → seq b i ≡ byte_at r i) → Syndromes poly first parity (take k b) s
    → Each (λ j x. mul poly x (power poly ((255 - k) * (first + j)))) parity s s' → Syndromes poly first parity block s'
syndromes_left poly P first parity k block r b s s' R K lb is S E = record {
  size = E.size ∙ S.size;
  bytes = λ j. elim (dec_lt j parity) [
    | yes h ↦ omega (arith, E.done j h, mul_lt poly P (seq s j) (power poly ((255 - k) * (first + j))))
    | no h ↦ omega (arith, E.rest j (omega arith), S.bytes j)
  ];
  are = λ j h.
      E.done j h ∙ ap (λ (y : ℕ). mul poly y (power poly ((255 - k) * (first + j)))) (S.are j h ∙ value (power poly (first + j)))
      ∙ sym (lowered_kept poly P (first + j) (eval poly (power poly (first + j)) block) k r (R.byte j h) K (R.zero_at j h));
}
  where
    value : (x : ℕ) → eval poly x (take k b) ≡ horner poly (byte_at r) x k
    value x =
        eval_horner poly x (take k b) ∙ ap (horner poly (seq (take k b)) x) (length-take-le k b (omega (arith, lb, K.few)))
        ∙ horner_ext poly (seq (take k b)) (byte_at r) x k (λ i h. get_or-take k b i 0 h ∙ is i (omega (arith, K.few)))

-- what the division leaves of the first k bytes, where the roots are those of a parity
pub leaves : (Root : ℕ → Type 0) (parity k : ℕ) (block : List ℕ) (r : Register) → (IsTabled parity → (j : ℕ) → j < parity → Root (power 0x163 (1 + j))) → k ≤ length block
    → ((i : ℕ) → seq block i < 256) → Left Root k block r → Leaves parity k block r
leaves Root parity k block r roots h bs L = record {
  remains = λ T. record {
    byte = λ j l. omega (
      arith,
      eval_horner 0x163 (power 0x163 (1 + j)) (take k block),
      horner_lt 0x163 (primitive 0x163 primitive_163) (seq (take k block))
          (power 0x163 (1 + j)) (length (take k block)) bytes,
    );
    zero_at = λ j l. L.zero_at (power 0x163 (1 + j)) (roots T j l);
  };
}
  where
    bytes : (i : ℕ) → seq (take k block) i < 256
    bytes i = elim (dec_lt i k) [
      | yes l ↦ omega (arith, get_or-take k block i 0 l, bs i)
      | no l ↦ omega (arith, get_or-eq_default (take k block) 0 {n = i} (omega (arith, length-take-le k block h)))
    ]

-- nothing is left of a codeword only
pub none_remains : (parity : ℕ) (block : List ℕ) → Remains 0x163 1 parity block none → (j : ℕ) → j < parity → eval 0x163 (power 0x163 (1 + j)) block ≡ 0
none_remains parity block R j h = none_left 0x163 (primitive 0x163 primitive_163) (1 + j) (eval 0x163 (power 0x163 (1 + j)) block) (R.byte j h) (R.zero_at j h)
