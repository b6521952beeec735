-- Four modules at once: what a product sets apart are the bits of a digit. Assumes nothing.
use Rattle.general.proofs.Names.{◌≡◌, sym, ap, subst, ◌∙◌, Bool, List, ℕ, ◌+◌, ◌-◌, ◌/◌, ◌%◌, ◌^◌, ◌<◌, ◌≤◌, arith, bit_and, and_le_r, T, eqb, eqb→eq}
use Rattle.general.proofs.Names.{length, set, length-set}
use Rattle.symbol.specs.Inner.{Stored, four_modules}
use Rattle.general.proofs.Finite.{up_to, every}
use Rattle.symbol.proofs.Stored.{stored_none, stored_more, stored_next, stored_as}

pub apart_lt : (x : ℕ) → bit_and x 16843009 < 16843010
apart_lt x = omega (arith, and_le_r x 16843009)

-- the two digits of a byte: tests that antt computes
abbrev high : ℕ → ℕ → Bool
high b k = eqb (four_modules (b / 16) / 256 ^ k % 256) (2 + b / 2 ^ (7 - k) % 2)

abbrev low : ℕ → ℕ → Bool
low b k = eqb (four_modules (b % 16) / 256 ^ k % 256) (2 + b / 2 ^ (3 - k) % 2)

high_all : T (up_to (λ b. up_to (high b) 4) 256)
high_all = tt

low_all : T (up_to (λ b. up_to (low b) 4) 256)
low_all = tt

pub high_modules : (b k : ℕ) → b < 256 → k < 4 → four_modules (b / 16) / 256 ^ k % 256 ≡ 2 + b / 2 ^ (7 - k) % 2
high_modules b k h l = eqb→eq _ _ (every (high b) 4 (every (λ b. up_to (high b) 4) 256 high_all b h) k l)

pub low_modules : (b k : ℕ) → b < 256 → k < 4 → four_modules (b % 16) / 256 ^ k % 256 ≡ 2 + b / 2 ^ (3 - k) % 2
low_modules b k h l = eqb→eq _ _ (every (low b) 4 (every (λ b. up_to (low b) 4) 256 low_all b h) k l)

-- eight modules, four and four
pub stored_eight : (b at x y : ℕ) {g g' g'' : List ℕ} → b < 256 → x ≡ four_modules (b / 16) → y ≡ four_modules (b % 16)
    → Stored (λ i. x / 256 ^ (i - at) % 256) at (at + 4) g g' → Stored (λ i. y / 256 ^ (i - (at + 4)) % 256) (at + 4) (at + 4 + 4) g' g''
    → Stored (λ i. 2 + b / 2 ^ (7 - (i - at)) % 2) at (at + 8) g g''
stored_eight b at x y {g} {g'} {g''} h e f s t =
    let n : at + 4 + 4 ≡ at + 8 = omega arith in
    subst (λ (to : ℕ). Stored (λ i. 2 + b / 2 ^ (7 - (i - at)) % 2) at to g g'') n
    (stored_next (omega arith) (omega arith)
    (stored_as _ (λ i l r. ap (λ (n : ℕ). n / 256 ^ (i - at) % 256) e ∙ high_modules b (i - at) h (omega arith)) s)
    (stored_as _
    (λ i l r. ap (λ (n : ℕ). n / 256 ^ (i - (at + 4)) % 256) f ∙ low_modules b (i - (at + 4)) h (omega arith)
    ∙ ap (λ (n : ℕ). 2 + b / 2 ^ n % 2) (places i l r)) t))
  where
    places : (i : ℕ) → at + 4 ≤ i → i < at + 4 + 4 → 3 - (i - (at + 4)) ≡ 7 - (i - at)
    places i l r = omega arith

-- four bytes of one number, stored one by one
module _ (g : List ℕ) (at x : ℕ) (h : at + 4 ≤ length g) where
  abbrev byte_at : ℕ → ℕ
  byte_at i = x / 256 ^ (i - at) % 256

  nth : (k : ℕ) → byte_at (at + k) ≡ x / 256 ^ k % 256
  nth k = let e : at + k - at ≡ k = omega arith in ap (λ (n : ℕ). x / 256 ^ n % 256) e

  next : (k v : ℕ) (g' : List ℕ) → k < 4 → v ≡ x / 256 ^ k % 256 → Stored byte_at at (at + k) g g' → Stored byte_at at (at + (k + 1)) g (set g' (at + k) v)
  next k v g' l e s =
      let f : at + k + 1 ≡ at + (k + 1) = omega arith in
      subst (λ (n : ℕ). Stored byte_at at n g (set g' (at + k) v)) f (stored_more (omega arith) (omega arith) (e ∙ sym (nth k)) s)

  pub stored_four : (a b c d : ℕ) → a ≡ x % 256 → b ≡ x / 256 % 256 → c ≡ x / 65536 % 256 → d ≡ x / 16777216 % 256
      → Stored byte_at at (at + 4) g (set (set (set (set g at a) (at + 1) b) (at + 2) c) (at + 3) d)
  stored_four a b c d ea eb ec ed =
      let z : at ≡ at + 0 = omega arith in
      let s0 = subst (λ (n : ℕ). Stored byte_at at n g g) z (stored_none byte_at at g) in
      let s1 = next 0 a g (omega arith) (omega arith) s0 in
      let y : at + 0 ≡ at = omega arith in
      let s1' = subst (λ (n : ℕ). Stored byte_at at (at + (0 + 1)) g (set g n a)) y s1 in
      next 3 d _ (omega arith) ed (next 2 c _ (omega arith) ec (next 1 b _ (omega arith) eb s1'))

  pub room : (a b c : ℕ)
      → (at + 1 < length (set g at a)) × (at + 2 < length (set (set g at a) (at + 1) b)) × (at + 3 < length (set (set (set g at a) (at + 1) b) (at + 2) c))
  room a b c = (simp length-set (omega arith), simp length-set (omega arith), simp length-set (omega arith))
