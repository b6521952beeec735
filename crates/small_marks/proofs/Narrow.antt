-- Rows of at most 27 modules, whose mask is a number of 27 bits.
use Rattle.general.proofs.Names.{◌≡◌, refl, ap, ap₂, ◌∙◌, sym, List, [], ◌∷◌, ℕ, zero, suc, ◌+◌, ◌-◌, ◌*◌, ◌/◌, ◌%◌, ◌^◌, ◌<◌, ◌≤◌, mod-lt, mod-eq_of_lt}
use Rattle.general.proofs.Names.{pow-le-pow_right, arith, lit<, length, get_or, take, drop, take_at, get_or-drop, bit_xor, xor_lt, xor_block}
use Rattle.bits.specs.Bits.{low_bits, value}
use Rattle.bits.proofs.Words.{length_low, value_low}
use Rattle.bits.proofs.Appending.{low_split}
use Rattle.placement.specs.Walk.{eight_of, run, behind, Gathered, Pushed, Masked, unmasked_at}
use Rattle.placement.specs.declared.Run.{Run}
use Rattle.small_marks.specs.Open.{Spans}
use Rattle.placement.proofs.Walk.{run_ext, last_value, gathered_is, bits_small, reads_none, reads_on, reads_push}

pub low_small : (n v k : ℕ) → get_or (low_bits n v) k 0 < 2
unfolding low_bits
low_small zero v k = omega arith
low_small (suc n) v zero = mod-lt (v / 2 ^ n) (lit< tt)
low_small (suc n) v (suc k) = low_small n v k

low_drop : (at n v : ℕ) → drop at (low_bits (at + n) v) ≡ low_bits n v
unfolding low_bits
low_drop zero n v = let e : 0 + n ≡ n = omega arith in ap (λ (i : ℕ). low_bits i v) e
low_drop (suc at) n v = let e : suc at + n ≡ suc (at + n) = omega arith in ap (λ (i : ℕ). drop (suc at) (low_bits i v)) e ∙ low_drop at n v

run_take : (n : ℕ) (l : List ℕ) → n ≤ length l → run n (λ k. get_or l k 0) ≡ take n l
unfolding run
run_take zero l h = refl
run_take (suc n) [] h = absurd (omega arith)
run_take (suc n) (x ∷ l) h = ap (λ (t : List ℕ). x ∷ t) (run_take n l (omega arith))

-- eight bits of the mask from a column on
window_is : (mask at : ℕ) → at ≤ 19 → mask / 2 ^ (19 - at) % 256 ≡ value 0 (run 8 (behind (low_bits 27 mask) at))
window_is mask at h =
    let e : 27 ≡ at + (8 + (19 - at)) = omega arith in
    let x = mask / 2 ^ (19 - at) in
    let front : take 8 (drop at (low_bits 27 mask)) ≡ low_bits 8 x =
    ap (λ (n : ℕ). take 8 (drop at (low_bits n mask))) e ∙ ap (take 8) (low_drop at (8 + (19 - at)) mask ∙ low_split 8 (19 - at) mask)
    ∙ take_at (low_bits 8 x) (low_bits (19 - at) mask) 8 (length_low 8 x) in
    let room : 8 ≤ length (drop at (low_bits 27 mask)) = omega (
      arith,
      ap length
          (ap (λ (n : ℕ). drop at (low_bits n mask)) e ∙ low_drop at (8 + (19 - at)) mask),
      length_low (8 + (19 - at)) mask,
    ) in
    let bits : run 8 (behind (low_bits 27 mask) at) ≡ low_bits 8 x =
    run_ext 8 (behind (low_bits 27 mask) at) (λ k. get_or (drop at (low_bits 27 mask)) k 0) (λ k. sym (get_or-drop at (low_bits 27 mask) k 0))
    ∙ run_take 8 (drop at (low_bits 27 mask)) room ∙ front in
    let none : 0 * 2 ^ 8 + x % 2 ^ 8 ≡ x % 256 = omega arith in
    sym (ap (value 0) bits ∙ value_low 8 0 x ∙ none)

-- the sum without carries, bit by bit
xor_value : (n u v : ℕ) (a b : ℕ → ℕ) → ((k : ℕ) → a k < 2) → ((k : ℕ) → b k < 2)
    → bit_xor (value u (run n a)) (value v (run n b)) ≡ value (bit_xor u v) (run n (λ k. bit_xor (a k) (b k)))
unfolding run value
xor_value zero u v a b ha hb = refl
xor_value (suc n) u v a b ha hb =
    xor_value n (u * 2 + a 0) (v * 2 + b 0) (λ k. a (suc k)) (λ k. b (suc k)) (λ k. ha (suc k)) (λ k. hb (suc k))
    ∙ ap (λ (x : ℕ). value x (run n (λ k. bit_xor (a (suc k)) (b (suc k))))) (xor_block 1 u v (a 0) (b 0) (ha 0) (hb 0))

pub narrow_is : {sq : List ℕ} (mask at : ℕ) {x g : ℕ} → Masked sq (low_bits 27 mask) → at ≤ 19 → x ≡ eight_of (behind sq at) → Gathered x g
    → (bit_xor g (mask / 2 ^ (19 - at) % 256) ≡ value 0 (run 8 (unmasked_at sq (low_bits 27 mask) at))) × (bit_xor g (mask / 2 ^ (19 - at) % 256) < 256)
narrow_is {sq} mask at {x} {g} a h e gathered = (
  ap₂ bit_xor (gathered_is (behind sq at) (λ k. a.modules (at + k)) e gathered) (window_is mask at h)
      ∙ xor_value 8 0 0 (behind sq at) (behind (low_bits 27 mask) at) (λ k. a.modules (at + k)) (λ k. a.masks (at + k)),
  xor_lt 8 g (mask / 2 ^ (19 - at) % 256) gathered.small (mod-lt (mask / 2 ^ (19 - at)) (lit< tt)),
)

module _ {sq row : List ℕ} (a : Masked sq row) where
  -- the last w of eight bits are the w bits from a column on
  pub lowest_is : (at w c : ℕ) {g x : ℕ} → w ≤ 8 → c + w ≡ at + 8 → g ≡ value 0 (run 8 (unmasked_at sq row at)) → x ≡ g % 2 ^ w → x ≡ value 0 (run w (unmasked_at sq row c))
  lowest_is at w c {g} {x} few e eg ex =
      let n : 8 ≡ 8 - w + w = omega arith in
      let i : (k : ℕ) → at + (8 - w + k) ≡ c + k = λ k. omega arith in
      ex ∙ ap (λ (y : ℕ). y % 2 ^ w) (eg ∙ ap (λ (j : ℕ). value 0 (run j (unmasked_at sq row at))) n) ∙ last_value (unmasked_at sq row at) (bits_small a at) (8 - w) w
      ∙ ap (value 0) (run_ext w (λ k. unmasked_at sq row at (8 - w + k)) (unmasked_at sq row c) (λ k. ap (λ (j : ℕ). bit_xor (get_or sq j 0) (get_or row j 0)) (i k)))

-- From column to column where all modules are data.

pub spans_none : {sq row out : List ℕ} {r : Run} → Spans sq row out out r r
spans_none = record { go = λ ks e z. reads_none }

pub spans_on : {sq row a b c : List ℕ} {r s t : Run} → r.column ≤ s.column → s.column ≤ t.column → Spans sq row a b r s → Spans sq row b c s t → Spans sq row a c r t
spans_on lo hi f g = record { go = λ ks e z. reads_on (f.go ks e (λ k p q. z k p (omega arith))) (g.go ks e (λ k p q. z k (omega arith) q)) }

pub spans_push : {sq row out out' : List ℕ} {r s : Run} → Masked sq row → (n x : ℕ) → r.column + n ≤ length sq
    → x ≡ value 0 (run n (unmasked_at sq row r.column)) → s.column ≡ r.column + n
    → Pushed n x out out' r s → Spans sq row out out' r s
spans_push {r = r} a n x h e f q = record { go = λ ks l z. reads_push a l n x (omega arith) (λ k i. z (r.column + k) (omega arith) (omega arith)) e f q }

-- The divisor 2 ^ w as the code has it.
pub two_power : (w : ℕ) → w ≤ 8 → 1 * 2 ^ w % 18446744073709551616 ≡ 2 ^ w
two_power w h = let e : 1 * 2 ^ w ≡ 2 ^ w = omega arith in ap (λ (y : ℕ). y % 18446744073709551616) e
    ∙ mod-eq_of_lt (omega (arith, pow-le-pow_right {n = 2} (lit< tt) {i = w} {j = 8} h))
