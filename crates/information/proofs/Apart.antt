-- Two words of one version differ in at least 9 bits, so up to 8 flips in both copies leave the nearest word as it was.
use Rattle.general.proofs.Names.{◌≡◌, refl, sym, ap, ap₂, subst, ◌∙◌, ◌||◌, ℕ, zero, suc, ◌+◌, ◌*◌, ◌/◌, ◌%◌, ◌^◌, ◌<◌, ◌≤◌, arith, add-zero, dec_lt, ℕ_discrete}
use Rattle.general.proofs.Names.{ne_eqb, lt-ltb, le-ltb, T, eqb, ltb, leb, eqb→eq, leb→le, ltb→lt, lit<, bit_xor, xor_lt, xor_block, xor_self, xor_comm}
use Rattle.general.proofs.Names.{xor_zero_l, xor_zero_r, get_or}
use lib.Pow.{shr_lt}
use lib.Count.{ones, ones_in, ones_step}
use Rattle.information.specs.Information.{times_x, product_from, gf16_mul, generator_times, remainder, word_of, info_bits, word_at}
use Rattle.information.specs.Information.{word_distance, least_of, nearest_word}
use Rattle.information.specs.Inner.{differences}
use Rattle.general.proofs.Xor.{xor_assoc, triangle}
use Rattle.general.proofs.Finite.{up_to, every}

-- tests that antt computes: `generatorTimes` is linear and small, and 15 differences
linear : T (up_to (λ n. eqb (generator_times (bit_xor (n / 16) (n % 16))) (bit_xor (generator_times (n / 16)) (generator_times (n % 16)))) 256)
unfolding generator_times gf16_mul product_from times_x
linear = tt

small : T (up_to (λ n. ltb (generator_times n) 65536) 16)
unfolding generator_times gf16_mul product_from times_x
small = tt

nine : T (up_to (λ n. eqb n 0 || leb 9 (ones_in 34 ((n * 65536 + generator_times n) * 64))) 16)
unfolding generator_times gf16_mul product_from times_x ones_in
nine = tt

generator_xor : (a b : ℕ) → a < 16 → b < 16 → generator_times (bit_xor a b) ≡ bit_xor (generator_times a) (generator_times b)
generator_xor a b h g =
    let p : (16 * a + b) / 16 ≡ a = omega arith in
    let q : (16 * a + b) % 16 ≡ b = omega arith in
    let n = 16 * a + b in
    rw (p, q) at (eqb→eq (generator_times (bit_xor (n / 16) (n % 16))) (bit_xor (generator_times (n / 16)) (generator_times (n % 16)))
    (every (λ n. eqb (generator_times (bit_xor (n / 16) (n % 16))) (bit_xor (generator_times (n / 16)) (generator_times (n % 16)))) 256 linear n (omega arith)))

pub generator_lt : (a : ℕ) → a < 16 → generator_times a < 65536
generator_lt a h = ltb→lt _ _ (every (λ n. ltb (generator_times n) 65536) 16 small a h)

pub remainder_lt : (r n : ℕ) → r < 65536 → n < 16 → remainder r n < 65536
unfolding remainder
remainder_lt r n h g =
    xor_lt 16 (r % 4096 * 16) (generator_times (bit_xor n (r / 4096))) (omega arith) (generator_lt (bit_xor n (r / 4096)) (xor_lt 4 n (r / 4096) g (omega arith)))

-- what two last nibbles change in the parity
remainder_xor : (r n k : ℕ) → r < 65536 → n < 16 → k < 16 → bit_xor (remainder r n) (remainder r k) ≡ generator_times (bit_xor n k)
unfolding remainder
remainder_xor r n k h g l =
    let s : r / 4096 < 16 = omega arith in
    rw (generator_xor n (r / 4096) g s, generator_xor k (r / 4096) l s, generator_xor n k g l)
    (cancel (r % 4096 * 16) (generator_times n) (generator_times k) (generator_times (r / 4096)))
  where
    -- (x + (a + y)) + (x + (b + y)) = a + b
    cancel : (x a b y : ℕ) → bit_xor (bit_xor x (bit_xor a y)) (bit_xor x (bit_xor b y)) ≡ bit_xor a b
    cancel x a b y =
        rw (xor_comm x (bit_xor a y), xor_assoc (bit_xor a y) x, ← xor_assoc x x, xor_self x, xor_zero_l (bit_xor b y))
        (rw (xor_comm b y, xor_assoc a y, ← xor_assoc y y, xor_self y, xor_zero_l b))

-- a word of a version by its last nibble
module _ (v : ℕ) (hi : v ≤ 84) where
  begun : ℕ
  begun = remainder (remainder 0 ((v + 20) / 16)) ((v + 20) % 16)

  begun_lt : begun < 65536
  unfolding begun
  begun_lt = remainder_lt (remainder 0 ((v + 20) / 16)) ((v + 20) % 16) (remainder_lt 0 ((v + 20) / 16) (lit< tt) (omega arith)) (omega arith)

  pub word_at_lem : (k : ℕ) → k < 16 → word_at v k ≡ word_of ((v + 20) * 16 + k)
  unfolding word_at info_bits
  word_at_lem k h = let e : (v + 20) * 16 + k / 4 * 4 + k % 4 ≡ (v + 20) * 16 + k = omega arith in ap word_of e

  word_last : (k : ℕ) → k < 16 → word_at v k ≡ (((v + 20) * 16 + k) * 65536 + remainder begun k) * 64
  unfolding word_of begun
  word_last k h =
      let a : ((v + 20) * 16 + k) / 256 ≡ (v + 20) / 16 = omega arith in
      let b : ((v + 20) * 16 + k) / 16 % 16 ≡ (v + 20) % 16 = omega arith in
      let c : ((v + 20) * 16 + k) % 16 ≡ k = omega arith in
      word_at_lem k h ∙ rw (a, b, c)

  pub words_xor : (k j : ℕ) → k < 16 → j < 16 → bit_xor (word_at v k) (word_at v j) ≡ (bit_xor k j * 65536 + generator_times (bit_xor k j)) * 64
  words_xor k j h g =
      ap₂ bit_xor (word_last k h) (word_last j g)
      ∙ shift (((v + 20) * 16 + k) * 65536 + remainder begun k) (((v + 20) * 16 + j) * 65536 + remainder begun j)
      ∙ ap (λ (n : ℕ). n * 64)
      (xor_block 16 ((v + 20) * 16 + k) ((v + 20) * 16 + j) (remainder begun k) (remainder begun j) (remainder_lt begun k begun_lt h)
      (remainder_lt begun j begun_lt g)
      ∙ ap₂ (λ (x y : ℕ). x * 65536 + y)
      (xor_block 4 (v + 20) (v + 20) k j h g ∙ (let z : bit_xor (v + 20) (v + 20) ≡ 0 = xor_self (v + 20) in omega arith))
      (remainder_xor begun k j begun_lt h g))
    where
      shift : (a b : ℕ) → bit_xor (a * 64) (b * 64) ≡ bit_xor a b * 64
      shift a b = simp add-zero at (xor_block 6 a b 0 0 (lit< tt) (lit< tt))

-- a number below 2 ^ k has no ones above its k digits
ones_in_lem : (k n : ℕ) → n < 2 ^ k → ones n ≡ ones_in k n
unfolding ones ones_in
ones_in_lem zero zero h = refl
ones_in_lem zero (suc n) h = absurd (let z : suc n < 1 = h in omega arith)
ones_in_lem (suc k) n h =
    let e : n < 2 ^ (k + 1) = subst (λ (m : ℕ). n < 2 ^ m) (let z : suc k ≡ k + 1 = omega arith in z) h in
    ones_step n ∙ ap (λ (x : ℕ). n % 2 + x) (ones_in_lem k (n / 2) (shr_lt k 1 e))

xor_ne : (a b : ℕ) → bit_xor a b ≡ 0 → a ≡ b
xor_ne a b e = sym (sym (ap (λ (n : ℕ). bit_xor n b) e ∙ xor_zero_l b) ∙ xor_assoc a b b ∙ ap (bit_xor a) (xor_self b) ∙ xor_comm a 0 ∙ xor_zero_l a)

nine_of : (x : ℕ) → x < 16 → (x ≡ 0 → ⊥) → 9 ≤ ones ((x * 65536 + generator_times x) * 64)
nine_of x h n =
    let l : (x * 65536 + generator_times x) * 64 < 2 ^ 34 = omega (arith, generator_lt x h) in
    rw (ones_in_lem 34 ((x * 65536 + generator_times x) * 64) l)
    (leb→le 9 _ (rw (ne_eqb x 0 n) at (every (λ n. eqb n 0 || leb 9 (ones_in 34 ((n * 65536 + generator_times n) * 64))) 16 nine x h)))

-- two words of a version differ in at least 9 bits
pub apart : (v k j : ℕ) → v ≤ 84 → k < 16 → j < 16 → (k ≡ j → ⊥) → 9 ≤ ones (bit_xor (word_at v k) (word_at v j))
apart v k j hi h g n = rw (words_xor v hi k j h g) (nine_of (bit_xor k j) (xor_lt 4 k j h g) (λ e. n (xor_ne k j e)))

-- the least of a list of distances
module _ (d : ℕ → ℕ) where
  pub nearest_le : (n : ℕ) → least_of d n ≤ n
  unfolding least_of
  nearest_le zero = omega arith
  nearest_le (suc n) = elim (dec_lt (d (suc n)) (d (least_of d n))) [
    | yes l ↦ rw (lt-ltb _ _ l) (omega arith)
    | no l ↦ rw (le-ltb (d (suc n)) (d (least_of d n)) (omega arith)) (omega (arith, nearest_le n))
  ]

  pub nearest_least : (n k : ℕ) → k ≤ n → d (least_of d n) ≤ d k
  unfolding least_of
  nearest_least zero k h = let e : k ≡ 0 = omega arith in rw e (omega arith)
  nearest_least (suc n) k h = elim (dec_lt (d (suc n)) (d (least_of d n))) [
    | yes l ↦ rw (lt-ltb _ _ l) (elim (ℕ_discrete k (suc n)) [ yes e ↦ rw e (omega arith) | no e ↦ omega (arith, nearest_least n k (omega arith)) ])
    | no l ↦ rw (le-ltb (d (suc n)) (d (least_of d n)) (omega arith))
        (elim (ℕ_discrete k (suc n)) [ yes e ↦ rw e (omega arith) | no e ↦ nearest_least n k (omega arith) ])
  ]

-- at most 8 flips of both copies: the nearest word is still that one
pub few_flips : (v k a b : ℕ) → v ≤ 84 → k < 16 → word_distance v a b k ≤ 8 → nearest_word v a b ≡ k
unfolding nearest_word word_distance
few_flips v k a b hi h le = elim (ℕ_discrete (nearest_word v a b) k) [
  | yes e ↦ e
  | no e ↦ (let w = word_at v (nearest_word v a b) in
      let u = word_at v k in
      let n-le : nearest_word v a b ≤ 15 = nearest_le (word_distance v a b) 15 in
      let least : word_distance v a b (nearest_word v a b) ≤ word_distance v a b k = nearest_least (word_distance v a b) 15 k (omega arith) in
      let far = apart v (nearest_word v a b) k hi (omega arith) h e in
      absurd (omega (arith, far, rw (xor_comm a u) at (triangle w a u), rw (xor_comm b u) at (triangle w b u))))
]

-- a word has 34 bits
pub word_lt : (v k : ℕ) → v ≤ 84 → k < 16 → word_at v k < 2 ^ 34
word_lt v k hi h = rw (word_last v hi k h) (omega (arith, remainder_lt (begun v hi) k (begun_lt v hi) h))

-- word k of a version, from its word 0
pub word_difference : (v k : ℕ) → v ≤ 84 → k < 16 → bit_xor (word_at v 0) ((k * 65536 + generator_times k) * 64) ≡ word_at v k
word_difference v k hi h =
    let d = simp xor_zero_r at (words_xor v hi k 0 h (lit< tt)) in
    rw (← d, xor_comm (word_at v k) (word_at v 0), ← xor_assoc, xor_self, xor_zero_l (word_at v k))

-- the table of these differences: a test that antt computes
differences_all : T (up_to (λ k. eqb (get_or differences k 0) ((k * 65536 + generator_times k) * 64)) 16)
unfolding differences generator_times gf16_mul product_from times_x
differences_all = tt

pub difference_is : (k : ℕ) → k < 16 → get_or differences k 0 ≡ (k * 65536 + generator_times k) * 64
difference_is k h = eqb→eq _ _ (every (λ k. eqb (get_or differences k 0) ((k * 65536 + generator_times k) * 64)) 16 differences_all k h)

-- the code's first word, and the distance of word k from it
pub first_word : (v : ℕ) {w x : ℕ} → v ≤ 84 → w ≡ word_of x → x ≡ (v + 20) * 16 → w ≡ word_at v 0
first_word v hi e d = let z : (v + 20) * 16 ≡ (v + 20) * 16 + 0 = omega arith in e ∙ ap word_of (d ∙ z) ∙ sym (word_at_lem v hi 0 (lit< tt))

pub distance_at : (v k a b : ℕ) {w : ℕ} → v ≤ 84 → k < 16 → w ≡ word_at v 0
    → ones (bit_xor (bit_xor w (get_or differences k 0)) a) + ones (bit_xor (bit_xor w (get_or differences k 0)) b) ≡ word_distance v a b k
unfolding word_distance
distance_at v k a b hi h e = rw (e, difference_is k h, word_difference v k hi h)
