-- GF(256) for any polynomial that passes the order test: the laws of a field. Assumes nothing.
use Rattle.general.proofs.Names.{◌≡◌, refl, sym, ap, ap₂, ◌∙◌, subst, Bool, true, false, cond, ◌&&◌, not, List, [], ◌∷◌, ℕ, zero, suc, ◌+◌, ◌-◌, ◌*◌, ◌/◌}
use Rattle.general.proofs.Names.{◌%◌, ◌≤◌, ◌<◌, arith, T, leb, ltb, eqb, leb→le, ltb→lt, lt→ltb, eqb→eq, length, get_or, bit_xor, xor_shr, xor_lt, xor_zero_r}
use Rattle.general.proofs.Names.{xor_self, xor_mod, le_of_suc-le-suc, eq-or-lt_of_le, zero-add, suc-add, add_comm, add_assoc, dec_le, inl, inr, ◌≢◌}
use lib.Arith.{le→nltb}
use Rattle.field.specs.Field.{times_alpha, raised, power, powers, find, log, times, mul, below, is_onto, is_once, order_test}
use Rattle.field.proofs.Xor.{xor_double, xor_swap}

pub T_and : (a b : Bool) → T (a && b) → T a × T b
T_and true b t = (tt, t)
T_and false b t = absurd t

pub below_at : (n : ℕ) (f : ℕ → Bool) → T (below n f) → (k : ℕ) → k < n → T (f k)
unfolding below
below_at zero f t k h = absurd (omega arith)
below_at (suc n) f t k h = elim (eq-or-lt_of_le (le_of_suc-le-suc h))
    [ inl e ↦ subst (λ (m : ℕ). T (f m)) (sym e) (T_and (f n) (below n f) t).0 | inr l ↦ below_at n f (T_and (f n) (below n f) t).1 k l ]

-- the polynomial is primitive: what the test says
pub record Primitive (poly : ℕ) : Type 0 where
  pub low : 256 ≤ poly
  pub high : poly < 512
  pub last : power poly 255 ≡ 1
  pub onto : (b : ℕ) → 0 < b → b < 256 → log poly b < 255
  pub once : (k : ℕ) → k < 255 → log poly (get_or (powers poly 255 1) k 0) ≡ k

onto_at : (ps : List ℕ) → T (is_onto ps) → (b : ℕ) → 0 < b → b < 256 → find b ps < 255
unfolding is_onto
onto_at ps t zero p h = absurd (omega arith)
onto_at ps t (suc k) p h = ltb→lt (find (suc k) ps) 255 (below_at 255 (λ (k : ℕ). ltb (find (suc k) ps) 255) t k (omega arith))

once_at : (ps : List ℕ) → T (is_once ps) → (k : ℕ) → k < 255 → find (get_or ps k 0) ps ≡ k
unfolding is_once
once_at ps t k h = eqb→eq (find (get_or ps k 0) ps) k (below_at 255 (λ (k : ℕ). eqb (find (get_or ps k 0) ps) k) t k h)

pub primitive : (poly : ℕ) → T (order_test poly) → Primitive poly
unfolding order_test log
primitive poly t =
    let t1 = T_and (leb 256 poly) (ltb poly 512 && (eqb (power poly 255) 1 && (is_onto (powers poly 255 1) && is_once (powers poly 255 1)))) t in
    let t2 = T_and (ltb poly 512) (eqb (power poly 255) 1 && (is_onto (powers poly 255 1) && is_once (powers poly 255 1))) t1.1 in
    let t3 = T_and (eqb (power poly 255) 1) (is_onto (powers poly 255 1) && is_once (powers poly 255 1)) t2.1 in
    let t4 = T_and (is_onto (powers poly 255 1)) (is_once (powers poly 255 1)) t3.1 in
    record {
      low = leb→le 256 poly t1.0;
      high = ltb→lt poly 512 t2.0;
      last = eqb→eq (power poly 255) 1 t3.0;
      onto = onto_at (powers poly 255 1) t4.0;
      once = once_at (powers poly 255 1) t4.1;
    }

-- ---- times α is linear, and stays in the byte

-- what is put in where the top digit t falls out
over : ℕ → ℕ → ℕ
over poly zero = zero
over poly (suc t) = poly

over_xor : (poly t u : ℕ) → t < 2 → u < 2 → over poly (bit_xor t u) ≡ bit_xor (over poly t) (over poly u)
unfolding over
over_xor poly zero u ht hu = refl
over_xor poly (suc zero) zero ht hu = sym (xor_zero_r poly)
over_xor poly (suc zero) (suc zero) ht hu = sym (xor_self poly)
over_xor poly (suc zero) (suc (suc u)) ht hu = absurd (omega arith)
over_xor poly (suc (suc t)) u ht hu = absurd (omega arith)

-- the test, one way and the other
cond_true : {A : Type 0} (b : Bool) (x y : A) → T b → cond b x y ≡ x
cond_true true x y t = refl
cond_true false x y t = absurd t

cond_false : {A : Type 0} (b : Bool) (x y : A) → T (not b) → cond b x y ≡ y
cond_false true x y t = absurd t
cond_false false x y t = refl

times_alpha_is : (poly x : ℕ) → x < 256 → times_alpha poly x ≡ bit_xor (x * 2) (over poly (x / 128))
unfolding times_alpha over
times_alpha_is poly x h = elim (dec_le 128 x) [
  | yes l ↦ cond_false (ltb (x * 2) 256) (x * 2) (bit_xor (x * 2) poly) (le→nltb (x * 2) 256 (omega arith))
      ∙ (let e : 1 ≡ x / 128 = omega arith in ap (λ (t : ℕ). bit_xor (x * 2) (over poly t)) e)
  | no l ↦ cond_true (ltb (x * 2) 256) (x * 2) (bit_xor (x * 2) poly) (lt→ltb (x * 2) 256 (omega arith))
      ∙ sym (xor_zero_r (x * 2)) ∙ (let e : 0 ≡ x / 128 = omega arith in ap (λ (t : ℕ). bit_xor (x * 2) (over poly t)) e)
]

-- a sum of bytes is a byte
pub sum_lt : (a b : ℕ) → a < 256 → b < 256 → bit_xor a b < 256
sum_lt a b ha hb = xor_lt 8 a b ha hb

-- linear
times_alpha_sum : (poly a b : ℕ) → a < 256 → b < 256 → times_alpha poly (bit_xor a b) ≡ bit_xor (times_alpha poly a) (times_alpha poly b)
times_alpha_sum poly a b ha hb =
    times_alpha_is poly (bit_xor a b) (sum_lt a b ha hb)
    ∙ ap₂ bit_xor (sym (xor_double a b)) (ap (over poly) (xor_shr a b 7) ∙ over_xor poly (a / 128) (b / 128) (omega arith) (omega arith))
    ∙ xor_swap (a * 2) (b * 2) (over poly (a / 128)) (over poly (b / 128))
    ∙ sym (ap₂ bit_xor (times_alpha_is poly a ha) (times_alpha_is poly b hb))

pub times_alpha_zero : (poly : ℕ) → times_alpha poly 0 ≡ 0
unfolding times_alpha
times_alpha_zero poly = refl

pub raised_zero : (poly i : ℕ) → raised poly i 0 ≡ 0
unfolding raised
raised_zero poly zero = refl
raised_zero poly (suc i) = ap (times_alpha poly) (raised_zero poly i) ∙ times_alpha_zero poly

pub raised_in : (poly i a : ℕ) → raised poly i (times_alpha poly a) ≡ times_alpha poly (raised poly i a)
unfolding raised
raised_in poly zero a = refl
raised_in poly (suc i) a = ap (times_alpha poly) (raised_in poly i a)

pub raised_add : (poly i j a : ℕ) → raised poly (i + j) a ≡ raised poly i (raised poly j a)
unfolding raised
raised_add poly zero j a = ap (λ (n : ℕ). raised poly n a) (zero-add j)
raised_add poly (suc i) j a = ap (λ (n : ℕ). raised poly n a) (suc-add i j) ∙ ap (times_alpha poly) (raised_add poly i j a)

pub powers_length : (poly n x : ℕ) → length (powers poly n x) ≡ n
unfolding powers
powers_length poly zero x = refl
powers_length poly (suc n) x = ap suc (powers_length poly n (times_alpha poly x))

pub powers_at : (poly n x i : ℕ) → i < n → get_or (powers poly n x) i 0 ≡ raised poly i x
unfolding powers raised
powers_at poly zero x i h = absurd (omega arith)
powers_at poly (suc n) x zero h = refl
powers_at poly (suc n) x (suc i) h = powers_at poly n (times_alpha poly x) i (le_of_suc-le-suc h) ∙ raised_in poly i x

find_at : (b : ℕ) (l : List ℕ) → find b l < length l → get_or l (find b l) 0 ≡ b
unfolding find
find_at b [] h = absurd (omega arith)
find_at b (x ∷ xs) h = go (find_at b xs) (eqb b x) (λ t. eqb→eq b x t) h
  where
    go : (find b xs < length xs → get_or xs (find b xs) 0 ≡ b) → (t : Bool) → (T t → b ≡ x)
        → (elim t as (λ _. ℕ) [ true ↦ zero | false ↦ suc (find b xs) ]) < suc (length xs)
        → get_or (x ∷ xs) (elim t as (λ _. ℕ) [ true ↦ zero | false ↦ suc (find b xs) ]) 0 ≡ b
    go rest true e k = sym (e tt)
    go rest false e k = rest (le_of_suc-le-suc k)

-- an element is 0 or a power
data Elem (poly : ℕ) : ℕ → Type 0 where
  none : Elem poly 0
  a_power : (i : ℕ) → Elem poly (power poly i)

pub times_pos : (poly a b : ℕ) → 0 < a → 0 < b → times poly a b ≡ power poly (log poly a + log poly b)
unfolding times
times_pos poly zero b ha hb = absurd (omega arith)
times_pos poly (suc a) zero ha hb = absurd (omega arith)
times_pos poly (suc a) (suc b) ha hb = refl

pub times_zero : (poly a : ℕ) → times poly a 0 ≡ 0
unfolding times
times_zero poly zero = refl
times_zero poly (suc a) = refl

over_high : (poly t : ℕ) → 256 ≤ poly → poly < 512 → t < 2 → over poly t / 256 ≡ t
unfolding over
over_high poly zero hl hh h = refl
over_high poly (suc zero) hl hh h = omega arith
over_high poly (suc (suc t)) hl hh h = absurd (omega arith)

module _ (poly : ℕ) (P : Primitive poly) where
  times_alpha_lt : (a : ℕ) → a < 256 → times_alpha poly a < 256
  times_alpha_lt a h =
      let t : a * 2 / 256 ≡ a / 128 = omega arith in
      let e : times_alpha poly a / 256 ≡ 0 =
      ap (λ (x : ℕ). x / 256) (times_alpha_is poly a h) ∙ xor_shr (a * 2) (over poly (a / 128)) 8
      ∙ ap₂ bit_xor t (over_high poly (a / 128) P.low P.high (omega arith)) ∙ xor_self (a / 128) in
      omega arith

  pub raised_lt : (i a : ℕ) → a < 256 → raised poly i a < 256
  unfolding raised
  raised_lt zero a h = h
  raised_lt (suc i) a h = times_alpha_lt (raised poly i a) (raised_lt i a h)

  raised_sum : (i a b : ℕ) → a < 256 → b < 256 → raised poly i (bit_xor a b) ≡ bit_xor (raised poly i a) (raised poly i b)
  unfolding raised
  raised_sum zero a b ha hb = refl
  raised_sum (suc i) a b ha hb = ap (times_alpha poly) (raised_sum i a b ha hb)
      ∙ times_alpha_sum poly (raised poly i a) (raised poly i b) (raised_lt i a ha) (raised_lt i b hb)

  -- the logarithm is one, both ways
  pub power_log : (b : ℕ) → 0 < b → b < 256 → power poly (log poly b) ≡ b
  unfolding log
  power_log b p h =
      let l : find b (powers poly 255 1) < 255 = P.onto b p h in
      sym (powers_at poly 255 1 (find b (powers poly 255 1)) l) ∙ find_at b (powers poly 255 1) (omega (arith, powers_length poly 255 1))

  pub log_power : (k : ℕ) → k < 255 → log poly (power poly k) ≡ k
  log_power k h = ap (log poly) (sym (powers_at poly 255 1 k h)) ∙ P.once k h

  pub power_inj : (i j : ℕ) → i < 255 → j < 255 → power poly i ≡ power poly j → i ≡ j
  power_inj i j hi hj e = sym (log_power i hi) ∙ ap (log poly) e ∙ log_power j hj

  view : (a : ℕ) → a < 256 → Elem poly a
  view zero h = none
  view (suc a) h = subst (Elem poly) (power_log (suc a) (omega arith) h) (a_power (log poly (suc a)))

  -- no power is 0
  times_alpha_pos : (a : ℕ) → 0 < a → a < 256 → times_alpha poly a ≢ 0
  unfolding raised
  times_alpha_pos a p h e =
      let l : log poly a < 255 = P.onto a p h in
      let s : raised poly (suc (log poly a)) 1 ≡ 0 = ap (times_alpha poly) (power_log a p h) ∙ e in
      let n : 255 ≡ (254 - log poly a) + suc (log poly a) = omega arith in
      let z : ◌≡◌ {A = ℕ} 1 0 =
      sym P.last ∙ ap (λ (m : ℕ). power poly m) n ∙ raised_add poly (254 - log poly a) (suc (log poly a)) 1
      ∙ ap (raised poly (254 - log poly a)) s ∙ raised_zero poly (254 - log poly a) in
      omega arith

  pub raised_pos : (i a : ℕ) → 0 < a → a < 256 → 0 < raised poly i a
  unfolding raised
  raised_pos zero a p h = p
  raised_pos (suc i) a p h = omega (arith, times_alpha_pos (raised poly i a) (raised_pos i a p h) (raised_lt i a h))

  one_lt : 1 < 256
  one_lt = omega arith

  pub power_lt : (i : ℕ) → power poly i < 256
  power_lt i = raised_lt i 1 one_lt

  pub power_pos : (i : ℕ) → 0 < power poly i
  power_pos i = raised_pos i 1 (omega arith) one_lt

  raised_swap : (i j a : ℕ) → raised poly i (raised poly j a) ≡ raised poly j (raised poly i a)
  raised_swap i j a = sym (raised_add poly i j a) ∙ ap (λ (n : ℕ). raised poly n a) (add_comm i j) ∙ raised_add poly j i a

  -- a product of powers
  times_power : (i j : ℕ) → times poly (power poly i) (power poly j) ≡ power poly (i + j)
  times_power i j =
      let li = log poly (power poly i) in
      let lj = log poly (power poly j) in
      times_pos poly (power poly i) (power poly j) (power_pos i) (power_pos j)
      ∙ raised_add poly li lj 1
      ∙ ap (raised poly li) (power_log (power poly j) (power_pos j) (raised_lt j 1 one_lt))
      ∙ raised_swap li j 1
      ∙ ap (raised poly j) (power_log (power poly i) (power_pos i) (raised_lt i 1 one_lt))
      ∙ raised_swap j i 1 ∙ sym (raised_add poly i j 1)

  times_raised : {a : ℕ} (k : ℕ) → Elem poly a → times poly a (power poly k) ≡ raised poly k a
  unfolding times
  times_raised k none = sym (raised_zero poly k)
  times_raised k (a_power i) = times_power i k ∙ raised_add poly i k 1 ∙ raised_swap i k 1

  times_comm : {a b : ℕ} → Elem poly a → Elem poly b → times poly a b ≡ times poly b a
  unfolding times
  times_comm none none = refl
  times_comm none (a_power j) = sym (times_zero poly (power poly j))
  times_comm (a_power i) none = times_zero poly (power poly i)
  times_comm (a_power i) (a_power j) = times_power i j ∙ ap (λ (n : ℕ). power poly n) (add_comm i j) ∙ sym (times_power j i)

  times_assoc : {a b c : ℕ} → Elem poly a → Elem poly b → Elem poly c → times poly (times poly a b) c ≡ times poly a (times poly b c)
  unfolding times
  times_assoc none eb ec = refl
  times_assoc {c} (a_power i) none ec = ap (λ (x : ℕ). times poly x c) (times_zero poly (power poly i)) ∙ sym (times_zero poly (power poly i))
  times_assoc (a_power i) (a_power j) none = times_zero poly (times poly (power poly i) (power poly j))
      ∙ sym (ap (times poly (power poly i)) (times_zero poly (power poly j)) ∙ times_zero poly (power poly i))
  times_assoc (a_power i) (a_power j) (a_power k) =
      ap (λ (x : ℕ). times poly x (power poly k)) (times_power i j) ∙ times_power (i + j) k
      ∙ ap (λ (n : ℕ). power poly n) (add_assoc i j k)
      ∙ sym (ap (times poly (power poly i)) (times_power j k) ∙ times_power i (j + k))

  times_sum : {a b c : ℕ} → a < 256 → b < 256 → Elem poly c → times poly (bit_xor a b) c ≡ bit_xor (times poly a c) (times poly b c)
  times_sum {a} {b} ha hb none = times_zero poly (bit_xor a b) ∙ sym (ap₂ bit_xor (times_zero poly a) (times_zero poly b))
  times_sum {a} {b} ha hb (a_power k) =
      times_raised k (view (bit_xor a b) (sum_lt a b ha hb)) ∙ raised_sum k a b ha hb ∙ sym (ap₂ bit_xor (times_raised k (view a ha)) (times_raised k (view b hb)))

  times_lt : {a b : ℕ} → Elem poly a → Elem poly b → times poly a b < 256
  unfolding times
  times_lt none eb = omega arith
  times_lt (a_power i) none = omega (arith, times_zero poly (power poly i))
  times_lt (a_power i) (a_power j) = omega (arith, times_power i j, raised_lt (i + j) 1 one_lt)

  times_none : {a b : ℕ} → Elem poly a → Elem poly b → times poly a b ≡ 0 → a ≢ 0 → b ≡ 0
  times_none none eb e n = absurd (n refl)
  times_none (a_power i) none e n = refl
  times_none (a_power i) (a_power j) e n = omega (arith, times_power i j, power_pos (i + j))

  -- ---- the same of any numbers
  el : (a : ℕ) → Elem poly (a % 256)
  el a = view (a % 256) (omega arith)

  pub mul_lt : (a b : ℕ) → mul poly a b < 256
  unfolding mul
  mul_lt a b = times_lt (el a) (el b)

  mul_mod : (a b : ℕ) → mul poly a b % 256 ≡ mul poly a b
  mul_mod a b = omega (arith, mul_lt a b)

  pub mul_comm : (a b : ℕ) → mul poly a b ≡ mul poly b a
  unfolding mul
  mul_comm a b = times_comm (el a) (el b)

  pub mul_assoc : (a b c : ℕ) → mul poly (mul poly a b) c ≡ mul poly a (mul poly b c)
  unfolding mul
  mul_assoc a b c =
      ap (λ (x : ℕ). times poly x (c % 256)) (mul_mod a b) ∙ times_assoc (el a) (el b) (el c) ∙ ap (times poly (a % 256)) (sym (mul_mod b c))

  pub mul_sum : (a b c : ℕ) → mul poly (bit_xor a b) c ≡ bit_xor (mul poly a c) (mul poly b c)
  unfolding mul
  mul_sum a b c = ap (λ (x : ℕ). times poly x (c % 256)) (xor_mod a b 8) ∙ times_sum (omega arith) (omega arith) (el c)

  pub mul_one : (a : ℕ) → mul poly a 1 ≡ a % 256
  unfolding mul raised
  mul_one a = times_raised 0 (el a)

  pub mul_power : (i j : ℕ) → mul poly (power poly i) (power poly j) ≡ power poly (i + j)
  unfolding mul
  mul_power i j =
      (let p : power poly i % 256 ≡ power poly i = omega (arith, raised_lt i 1 one_lt) in
      let q : power poly j % 256 ≡ power poly j = omega (arith, raised_lt j 1 one_lt) in ap₂ (times poly) p q)
      ∙ times_power i j

  -- 255 steps come round
  pub power_period : (i m : ℕ) → power poly (255 * i + m) ≡ power poly m
  power_period zero m = (let e : 255 * 0 + m ≡ m = omega arith in ap (λ (n : ℕ). power poly n) e)
  power_period (suc i) m =
      (let e : 255 * suc i + m ≡ 255 * i + m + 255 = omega arith in ap (λ (n : ℕ). power poly n) e)
      ∙ raised_add poly (255 * i + m) 255 1 ∙ ap (raised poly (255 * i + m)) P.last ∙ power_period i m

  -- the inverse of what is no multiple of 256
  pub mul_inverse : (a : ℕ) → 0 < a → a < 256 → mul poly a (power poly (255 - log poly a)) ≡ 1
  mul_inverse a p h =
      ap (λ (x : ℕ). mul poly x (power poly (255 - log poly a))) (sym (power_log a p h)) ∙ mul_power (log poly a) (255 - log poly a)
      ∙ (let e : log poly a + (255 - log poly a) ≡ 255 = omega (arith, P.onto a p h) in ap (λ (n : ℕ). power poly n) e) ∙ P.last

  pub mul_none : (a b : ℕ) → mul poly a b ≡ 0 → a % 256 ≢ 0 → b % 256 ≡ 0
  unfolding mul
  mul_none a b = times_none (el a) (el b)
