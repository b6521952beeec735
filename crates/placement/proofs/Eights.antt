-- Eight bytes as one number.
use Rattle.general.proofs.Names.{◌≡◌, refl, ap, ap₂, ◌∙◌, sym, List, ◌∷◌, ℕ, zero, suc, ◌+◌, ◌*◌, ◌/◌, ◌%◌, ◌^◌, ◌<◌, ◌≤◌, add_comm, mod-lt, lit<, arith, bit_xor}
use Rattle.general.proofs.Names.{xor_block, bit_and, and_block, and_mask, get_or}
use lib.Arith.{digits_mod, digits_div}
use lib.Pow.{shr-shr}
use Rattle.placement.specs.Walk.{four_of, eight_of, byte_of, run, behind, bytes_of}

four_lt : (a b c d : ℕ) → a < 256 → b < 256 → c < 256 → d < 256 → four_of a b c d < 4294967296
four_lt a b c d p q r s = omega arith

-- eight bits brought together by a product, whose other bits stand apart from theirs
product_is : (a b c d e f g h : ℕ) → a < 2 → b < 2 → c < 2 → d < 2 → e < 2 → f < 2 → g < 2 → h < 2
    → four_of (a * 16 + e) (b * 16 + f) (c * 16 + g) (d * 16 + h) * 134480385 / 16777216 % 256
    ≡ (a * 8 + b * 4 + c * 2 + d) * 16 + (e * 8 + f * 4 + g * 2 + h)
product_is a b c d e f g h ha hb hc hd he hf hg hh =
    let above = b * 128 + c * 32832 + d * 8405024 + f * 8 + g * 2052 + h * 525314 in
    let byte = (a * 8 + b * 4 + c * 2 + d) * 16 + (e * 8 + f * 4 + g * 2 + h) in
    let q : four_of (a * 16 + e) (b * 16 + f) (c * 16 + g) (d * 16 + h) * 134480385 / 16777216 ≡ above * 256 + byte = omega arith in
    rw q (digits_mod above (omega arith))

module _ (b : ℕ → ℕ) where
  pub low_four : ((k : ℕ) → b k < 256) → eight_of b % 4294967296 ≡ four_of (b 0) (b 1) (b 2) (b 3)
  low_four h = digits_mod (four_of (b 4) (b 5) (b 6) (b 7)) (four_lt (b 0) (b 1) (b 2) (b 3) (h 0) (h 1) (h 2) (h 3))

  pub high_four : ((k : ℕ) → b k < 256) → eight_of b / 4294967296 ≡ four_of (b 4) (b 5) (b 6) (b 7)
  high_four h = digits_div (four_of (b 4) (b 5) (b 6) (b 7)) (four_lt (b 0) (b 1) (b 2) (b 3) (h 0) (h 1) (h 2) (h 3))

  -- all are zero where their number is
  pub eight_zero : eight_of b ≡ 0 → (k : ℕ) → k < 8 → b k ≡ 0
  eight_zero e zero h = omega arith
  eight_zero e (suc zero) h = omega arith
  eight_zero e (suc (suc zero)) h = omega arith
  eight_zero e (suc (suc (suc zero))) h = omega arith
  eight_zero e (suc (suc (suc (suc zero)))) h = omega arith
  eight_zero e (suc (suc (suc (suc (suc zero))))) h = omega arith
  eight_zero e (suc (suc (suc (suc (suc (suc zero)))))) h = omega arith
  eight_zero e (suc (suc (suc (suc (suc (suc (suc zero))))))) h = omega arith
  eight_zero e (suc (suc (suc (suc (suc (suc (suc (suc k)))))))) h = absurd (omega arith)

pub eight_is : (s : List ℕ) (at l h : ℕ) → l ≡ four_of (get_or s at 0) (get_or s (at + 1) 0) (get_or s (at + 2) 0) (get_or s (at + 3) 0)
    → h ≡ four_of (get_or s (at + 4) 0) (get_or s (at + 5) 0) (get_or s (at + 6) 0) (get_or s (at + 7) 0) → l + h * 4294967296 ≡ eight_of (behind s at)
eight_is s at l h e f =
    let z : at ≡ at + 0 = omega arith in
    let g : l ≡ four_of (get_or s (at + 0) 0) (get_or s (at + 1) 0) (get_or s (at + 2) 0) (get_or s (at + 3) 0) =
    e ∙ ap (λ (i : ℕ). four_of (get_or s i 0) (get_or s (at + 1) 0) (get_or s (at + 2) 0) (get_or s (at + 3) 0)) z in
    add_comm l (h * 4294967296) ∙ ap₂ (λ (x y : ℕ). x * 4294967296 + y) f g

eight_ext : (a b : ℕ → ℕ) → ((k : ℕ) → a k ≡ b k) → eight_of a ≡ eight_of b
eight_ext a b e = rw (e 0, e 1, e 2, e 3, e 4, e 5, e 6, e 7)

-- an operation on bits, byte by byte
module _ (op : ℕ → ℕ → ℕ) (block : (k a b r s : ℕ) → r < 2 ^ k → s < 2 ^ k → op (a * 2 ^ k + r) (b * 2 ^ k + s) ≡ op a b * 2 ^ k + op r s)
    (a b : ℕ → ℕ) (ha : (k : ℕ) → a k < 256) (hb : (k : ℕ) → b k < 256) where
  op_four : (i j k l : ℕ)
      → op (four_of (a i) (a j) (a k) (a l)) (four_of (b i) (b j) (b k) (b l)) ≡ four_of (op (a i) (b i)) (op (a j) (b j)) (op (a k) (b k)) (op (a l) (b l))
  op_four i j k l =
      block 8 ((a l * 256 + a k) * 256 + a j) ((b l * 256 + b k) * 256 + b j) (a i) (b i) (ha i) (hb i)
      ∙ ap (λ (x : ℕ). x * 256 + op (a i) (b i)) (block 8 (a l * 256 + a k) (b l * 256 + b k) (a j) (b j) (ha j) (hb j)
      ∙ ap (λ (x : ℕ). x * 256 + op (a j) (b j)) (block 8 (a l) (b l) (a k) (b k) (ha k) (hb k)))

  op_eight : op (eight_of a) (eight_of b) ≡ eight_of (λ k. op (a k) (b k))
  op_eight =
      block 32 (four_of (a 4) (a 5) (a 6) (a 7)) (four_of (b 4) (b 5) (b 6) (b 7)) (four_of (a 0) (a 1) (a 2) (a 3)) (four_of (b 0) (b 1) (b 2) (b 3))
      (four_lt (a 0) (a 1) (a 2) (a 3) (ha 0) (ha 1) (ha 2) (ha 3)) (four_lt (b 0) (b 1) (b 2) (b 3) (hb 0) (hb 1) (hb 2) (hb 3))
      ∙ ap₂ (λ (x y : ℕ). x * 4294967296 + y) (op_four 4 5 6 7) (op_four 0 1 2 3)

pub xor_eight : (a b : ℕ → ℕ) → ((k : ℕ) → a k < 256) → ((k : ℕ) → b k < 256) → bit_xor (eight_of a) (eight_of b) ≡ eight_of (λ k. bit_xor (a k) (b k))
xor_eight = op_eight bit_xor xor_block

-- Eight bytes below 4 as four of two digits each, of which the lowest bits are kept and gathered.
module _ (b : ℕ → ℕ) (h : (k : ℕ) → b k < 4) where
  pair_lt : (k : ℕ) → b k * 16 + b (k + 4) < 256
  pair_lt k = omega (arith, h k, h (k + 4))

  pair_lowest : (k : ℕ) → bit_and (b k * 16 + b (k + 4)) 17 ≡ b k % 2 * 16 + b (k + 4) % 2
  pair_lowest k =
      and_block 4 (b k) 1 (b (k + 4)) 1 (omega (arith, h (k + 4))) (lit< tt)
      ∙ ap₂ (λ (x y : ℕ). x * 16 + y) (and_mask (b k) 1) (and_mask (b (k + 4)) 1)

  pairs_are : eight_of b % 4294967296 * 16 + eight_of b / 4294967296
      ≡ four_of (b 0 * 16 + b 4) (b 1 * 16 + b 5) (b 2 * 16 + b 6) (b 3 * 16 + b 7)
  pairs_are =
      let g : (k : ℕ) → b k < 256 = λ k. omega (arith, h k) in
      rw (low_four b g, high_four b g) (omega arith)

  pub gather_is : (x : ℕ) → x ≡ eight_of b
      → bit_and (x % 4294967296 * 16 + x / 4294967296) 0x11111111 * 134480385 / 16777216 % 256 ≡ byte_of (λ k. b k % 2)
  gather_is x e =
      ap (λ (y : ℕ). bit_and (y % 4294967296 * 16 + y / 4294967296) 0x11111111 * 134480385 / 16777216 % 256) e
      ∙ ap (λ (y : ℕ). bit_and y 0x11111111 * 134480385 / 16777216 % 256) pairs_are
      ∙ ap (λ (y : ℕ). y * 134480385 / 16777216 % 256) (op_four bit_and and_block (λ k. b k * 16 + b (k + 4)) (λ k. 17) pair_lt (λ k. lit< tt) 0 1 2 3
      ∙ rw (pair_lowest 0, pair_lowest 1, pair_lowest 2, pair_lowest 3))
      ∙ product_is (b 0 % 2) (b 1 % 2) (b 2 % 2) (b 3 % 2) (b 4 % 2) (b 5 % 2) (b 6 % 2) (b 7 % 2) (bit 0) (bit 1) (bit 2) (bit 3) (bit 4) (bit 5) (bit 6) (bit 7)
    where
      bit : (k : ℕ) → b k % 2 < 2
      bit k = mod-lt (b k) (lit< tt)

-- the bytes of eight
four_bytes_lem : (a b c d : ℕ) → a < 256 → b < 256 → c < 256 → d < 256
    → (four_of a b c d % 256 ≡ a) × (four_of a b c d / 256 % 256 ≡ b) × (four_of a b c d / 65536 % 256 ≡ c) × (four_of a b c d / 16777216 % 256 ≡ d)
four_bytes_lem a b c d p q r s = (omega arith, omega arith, omega arith, omega arith)

lower : (x q : ℕ) → x % 4294967296 ≡ q
    → (x % 256 ≡ q % 256) × (x / 256 % 256 ≡ q / 256 % 256) × (x / 65536 % 256 ≡ q / 65536 % 256) × (x / 16777216 % 256 ≡ q / 16777216 % 256)
lower x q e = (omega arith, omega arith, omega arith, omega arith)

upper : (x q : ℕ) → x / 4294967296 ≡ q
    → (x / 4294967296 % 256 ≡ q % 256) × (x / 1099511627776 % 256 ≡ q / 256 % 256) × (x / 281474976710656 % 256 ≡ q / 65536 % 256)
    × (x / 72057594037927936 % 256 ≡ q / 16777216 % 256)
upper x q e = (omega arith, omega arith, omega arith, omega arith)

pub bytes_eight : (b : ℕ → ℕ) → ((k : ℕ) → b k < 256) → bytes_of (eight_of b) ≡ run 8 b
unfolding run
bytes_eight b h =
    let l = lower (eight_of b) (four_of (b 0) (b 1) (b 2) (b 3)) (low_four b h) in
    let u = upper (eight_of b) (four_of (b 4) (b 5) (b 6) (b 7)) (high_four b h) in
    let r = four_bytes_lem (b 0) (b 1) (b 2) (b 3) (h 0) (h 1) (h 2) (h 3) in
    let s = four_bytes_lem (b 4) (b 5) (b 6) (b 7) (h 4) (h 5) (h 6) (h 7) in
    ap₂ ◌∷◌ (l.0 ∙ r.0)
    (ap₂ ◌∷◌ (l.1 ∙ r.1)
    (ap₂ ◌∷◌ (l.2 ∙ r.2) (ap₂ ◌∷◌ (l.3 ∙ r.3) (ap₂ ◌∷◌ (u.0 ∙ s.0) (ap₂ ◌∷◌ (u.1 ∙ s.1) (ap₂ ◌∷◌ (u.2 ∙ s.2) (ap₂ ◌∷◌ (u.3 ∙ s.3) refl)))))))

pub eight_byte : (b : ℕ → ℕ) → ((k : ℕ) → b k < 256) → (j : ℕ) → j < 8 → eight_of b / 2 ^ (8 * j) % 256 ≡ b j
unfolding run
eight_byte b h zero l = let e : eight_of b / 1 ≡ eight_of b = omega arith in ap (λ (x : ℕ). x % 256) e ∙ ap (λ (s : List ℕ). get_or s 0 0) (bytes_eight b h)
eight_byte b h (suc zero) l = ap (λ (s : List ℕ). get_or s 1 0) (bytes_eight b h)
eight_byte b h (suc (suc zero)) l = ap (λ (s : List ℕ). get_or s 2 0) (bytes_eight b h)
eight_byte b h (suc (suc (suc zero))) l = ap (λ (s : List ℕ). get_or s 3 0) (bytes_eight b h)
eight_byte b h (suc (suc (suc (suc zero)))) l = ap (λ (s : List ℕ). get_or s 4 0) (bytes_eight b h)
eight_byte b h (suc (suc (suc (suc (suc zero))))) l = ap (λ (s : List ℕ). get_or s 5 0) (bytes_eight b h)
eight_byte b h (suc (suc (suc (suc (suc (suc zero)))))) l = ap (λ (s : List ℕ). get_or s 6 0) (bytes_eight b h)
eight_byte b h (suc (suc (suc (suc (suc (suc (suc zero))))))) l = ap (λ (s : List ℕ). get_or s 7 0) (bytes_eight b h)
eight_byte b h (suc (suc (suc (suc (suc (suc (suc (suc j)))))))) l = absurd (omega arith)

-- shifted down by d bytes, where those behind the eight are 0
pub eight_down : (d : ℕ) (a b : ℕ → ℕ) → ((k : ℕ) → b k < 256) → ((k : ℕ) → 8 ≤ k → b k ≡ 0) → ((k : ℕ) → b (d + k) ≡ a k) → eight_of b / 2 ^ (8 * d) ≡ eight_of a
eight_down zero a b h z e = let i : eight_of b / 1 ≡ eight_of b = omega arith in i ∙ eight_ext (λ k. b (0 + k)) a e
eight_down (suc d) a b h z e =
    let i : 8 * suc d ≡ 8 * d + 8 = omega arith in
    let j : (k : ℕ) → d + suc k ≡ suc d + k = λ k. omega arith in
    ap (λ (n : ℕ). eight_of b / 2 ^ n) i ∙ sym (shr-shr (eight_of b) (8 * d) 8) ∙ ap (λ (x : ℕ). x / 256) (eight_down d (λ k. b (d + k)) b h z (λ k. refl))
    ∙ down (λ k. b (d + k)) (h (d + 0)) (z (d + 8) (omega arith)) ∙ eight_ext (λ k. b (d + suc k)) a (λ k. ap b (j k) ∙ e k)
  where
    down : (c : ℕ → ℕ) → c 0 < 256 → c 8 ≡ 0 → eight_of c / 256 ≡ eight_of (λ k. c (suc k))
    down c l n = let s : eight_of c ≡ eight_of (λ k. c (suc k)) * 256 + c 0 = omega arith in ap (λ (x : ℕ). x / 256) s ∙ digits_div (eight_of (λ k. c (suc k))) l
