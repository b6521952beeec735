-- Runs of modules of one sort.
use Rattle.general.proofs.Names.{◌≡◌, refl, ap, ap₂, ◌∙◌, sym, subst, ◌≢◌, List, ℕ, zero, suc, ◌+◌, ◌-◌, ◌*◌, ◌/◌, ◌%◌, ◌^◌, ◌<◌, ◌≤◌, zero-le, suc-le-suc}
use Rattle.general.proofs.Names.{mod-one, zero-div, zero-mod, add-one, mod-lt, lit<, arith, dec_lt, bit_xor, bit_and, bit_or, or_shr, and_shr, xor_shr, or_mod, and_mod, xor_mod}
use Rattle.general.proofs.Names.{and_zero_r, xor_zero_r, T, eqb, eqb→eq, length, get_or, get_or-eq_default}
use lib.Count.{count_trailing_zeros, under, trailing_le}
use lib.Pow.{shr-shr, mod-pow-add, mod-mod-pow, field}
use Rattle.general.proofs.Finite.{up_to, every}
use Rattle.information.specs.Inner.{lowest}
use Rattle.bits.specs.Bits.{value}
use Rattle.placement.specs.Walk.{eight_of, run, behind, unmasked_at, Gathered, Pushed, Aligned, Skipped, ReadsColumns, ZeroBytesFirst, NoData, Next, ReadsNext}
use Rattle.placement.specs.declared.Run.{Run}
use Rattle.placement.proofs.Eights.{eight_byte, eight_down}
use Rattle.placement.proofs.Walk.{run_small, run_at, run_front, first_value, gathered_lowest, modules_small, modules_bits, lowest_size, reads_push, reads_skip}

-- Zeros at a number's end.

one_more : (n t : ℕ) → n % 2 ^ suc t ≡ (n / 2 % 2 ^ t) * 2 + n % 2
one_more n t = ap (λ (i : ℕ). n % 2 ^ i) (sym (add-one t)) ∙ mod-pow-add n t 1

trailing_zeros : (k n : ℕ) → n % 2 ^ count_trailing_zeros k n ≡ 0
unfolding count_trailing_zeros
trailing_zeros zero n = mod-one n
trailing_zeros (suc k) n = go (n % 2) refl (trailing_zeros k (n / 2))
  where
    go : (d : ℕ) → n % 2 ≡ d → n / 2 % 2 ^ count_trailing_zeros k (n / 2) ≡ 0 → n % 2 ^ under d (count_trailing_zeros k (n / 2)) ≡ 0
    go zero e z = one_more n (count_trailing_zeros k (n / 2)) ∙ ap₂ (λ (x y : ℕ). x * 2 + y) z e
    go (suc d) e z = mod-one n

-- there are no more of them
trailing_most : (k n j : ℕ) → j ≤ k → n % 2 ^ j ≡ 0 → j ≤ count_trailing_zeros k n
unfolding count_trailing_zeros
trailing_most k n zero h e = zero-le
trailing_most zero n (suc j) h e = absurd (omega arith)
trailing_most (suc k) n (suc j) h e =
    let s = sym (one_more n j) ∙ e in
    let low : n % 2 ≡ 0 = omega arith in
    subst (λ (d : ℕ). suc j ≤ under d (count_trailing_zeros k (n / 2))) (sym low) (suc-le-suc (trailing_most k (n / 2) j (omega arith) (omega arith)))

-- zeros at the end, fewer of them
fewer : (x a b : ℕ) → b ≤ a → x % 2 ^ a ≡ 0 → x % 2 ^ b ≡ 0
fewer x a b h z = let e : a - b + b ≡ a = omega arith in sym (mod-mod-pow x (a - b) b) ∙ rw (e, z) (zero-mod (2 ^ b))

pub zero_bytes_first : (x : ℕ) → ZeroBytesFirst x (count_trailing_zeros 64 x / 8)
zero_bytes_first x =
    let few = trailing_le 64 x in
    record {
      most = omega arith;
      zeros = fewer x (count_trailing_zeros 64 x) _ (omega arith) (trailing_zeros 64 x);
      first = λ z. omega (arith, trailing_most 64 x 8 (omega arith) z);
    }

first_byte_zero : {x w : ℕ} → ZeroBytesFirst x w → (j : ℕ) → j < w → x / 2 ^ (8 * j) % 256 ≡ 0
first_byte_zero {x} {w} l j h = sym (field x 8 (8 * j)) ∙ rw (fewer x (8 * w) (8 + 8 * j) (omega arith) l.zeros) (zero-div (2 ^ (8 * j)))

-- Kinds that are not 0. A bit for each of seven bytes: tests that antt computes.

abbrev bits : ℕ
bits = 0x0101010101010100

bits_test : T (up_to (λ (i : ℕ). eqb (bits / 2 ^ (8 * (i + 1)) % 2) 1) 7)
bits_test = tt

bit_at : (j : ℕ) → 0 < j → j < 8 → bits / 2 ^ (8 * j) % 2 ≡ 1
bit_at j p h =
    let e : j - 1 + 1 ≡ j = omega arith in
    subst (λ (i : ℕ). bits / 2 ^ (8 * i) % 2 ≡ 1) e (eqb→eq _ _ (every (λ (i : ℕ). eqb (bits / 2 ^ (8 * (i + 1)) % 2) 1) 7 bits_test (j - 1) (omega arith)))

abbrev holes : ℕ → ℕ
holes k = bit_xor (bit_and (bit_or k (k / 2)) bits) bits

-- the first byte is 0, and another is odd where the kind is 0
holes_first : (k : ℕ) → holes k % 256 ≡ 0
holes_first k =
    xor_mod (bit_and (bit_or k (k / 2)) bits) bits 8 ∙ xor_zero_r (bit_and (bit_or k (k / 2)) bits % 256) ∙ and_mod (bit_or k (k / 2)) bits 8
    ∙ and_zero_r (bit_or k (k / 2) % 256)

two_low : (y : ℕ) → y % 256 ≡ 0 → (y % 2 ≡ 0) × (y / 2 % 2 ≡ 0)
two_low y e = (omega arith, omega arith)

holes_at : (k j : ℕ) → 0 < j → j < 8 → k / 2 ^ (8 * j) % 256 ≡ 0 → holes k / 2 ^ (8 * j) % 2 ≡ 1
holes_at k j p h z =
    let i : 1 + 8 * j ≡ 8 * j + 1 = omega arith in
    let s : k / 2 / 2 ^ (8 * j) ≡ k / 2 ^ (8 * j) / 2 = shr-shr k 1 (8 * j) ∙ rw i (sym (shr-shr k (8 * j) 1)) in
    let low = two_low (k / 2 ^ (8 * j)) z in
    rw (xor_shr, and_shr, or_shr, xor_mod _ _ 1, and_mod _ _ 1, or_mod _ _ 1, bit_at j p h, s, low.0, low.1)

pub no_data_are : {k w : ℕ} → ZeroBytesFirst (holes k) w → NoData k w
no_data_are {k} {w} l = record {
  least = l.first (holes_first k);
  most = l.most;
  none = λ j p h z. omega (arith, first_byte_zero l j h, holes_at k j p (omega arith) z);
}

-- From column to column.

pub passed_one : (ks : List ℕ) (c : ℕ) → c < length ks → get_or ks c 0 ≢ 0 → Skipped ks c (c + 1)
passed_one ks c h z = record { least = omega arith; most = omega arith; none = λ k lo hi. let e : c ≡ k = omega arith in subst (λ (i : ℕ). get_or ks i 0 ≢ 0) e z }

module _ (ks : List ℕ) (c : ℕ) {k : ℕ} (bytes : (i : ℕ) → get_or ks i 0 < 256) (kinds : k ≡ eight_of (behind ks c)) where
  byte_is : (j : ℕ) → j < 8 → k / 2 ^ (8 * j) % 256 ≡ get_or ks (c + j) 0
  byte_is j h = ap (λ (y : ℕ). y / 2 ^ (8 * j) % 256) kinds ∙ eight_byte (behind ks c) (λ i. bytes (c + i)) j h

  -- modules that are no data; behind the row there is no kind
  pub passed : {w : ℕ} → c < length ks → k % 256 ≢ 0 → NoData k w → Skipped ks c (c + w)
  passed {w} inside first u = record {
    least = omega arith;
    most = elim (dec_lt (length ks) (c + w)) [
      | yes q ↦ absurd (kind (length ks - c) (omega arith) (get_or-eq_default ks 0 {n = c + (length ks - c)} (omega arith)))
      | no q ↦ omega arith
    ];
    none = λ i lo hi. let z : c + (i - c) ≡ i = omega arith in subst (λ (j : ℕ). get_or ks j 0 ≢ 0) z (kind (i - c) (omega arith));
  }
    where
      kind : (j : ℕ) → j < w → get_or ks (c + j) 0 ≢ 0
      kind zero q z = let y : k / 1 ≡ k = omega arith in first (ap (λ (i : ℕ). i % 256) (sym y) ∙ byte_is 0 (omega arith) ∙ z)
      kind (suc j) q z = u.none (suc j) (omega arith) q (byte_is (suc j) (omega arith) ∙ z)

first_are : {ks sq row : List ℕ} {b : ℕ → ℕ} {c k x left g : ℕ} → Next ks sq row b c k x left → Gathered x g → (w : ℕ) → w ≤ left → left ≤ 8
    → g / 2 ^ (8 - w) ≡ value 0 (run w (unmasked_at (lowest sq) row c))
first_are {sq = sq} {row = row} {b = b} {c = c} n g w h l =
    let e : 8 ≡ w + (8 - w) = omega arith in
    ap (λ (y : ℕ). y / 2 ^ (8 - w)) (gathered_lowest b n.small n.modules g ∙ ap (λ (i : ℕ). value 0 (run i (λ k. b k % 2))) e)
    ∙ first_value (λ k. b k % 2) (λ k. mod-lt (b k) (lit< tt)) w (8 - w)
    ∙ ap (value 0) (run_front w (λ k. b k % 2) (unmasked_at (lowest sq) row c) (λ i q. n.bits i (omega arith)))

module _ {k x left : ℕ} {out : List ℕ} {r s : Run} (some : 0 < left) (few : left ≤ 8) where
  pub reads_next_push : {out' : List ℕ} {l g : ℕ} (w : ℕ) → ZeroBytesFirst k l → w ≤ l → w ≤ left → 0 < w → Gathered x g → s.column ≡ r.column + w
      → Pushed w (g / 2 ^ (8 - w)) out out' r s → ReadsNext k x left out out' r s
  reads_next_push {g = g} w l a b p e f q = record {
    go = λ ks sq row u n. (
      omega arith,
      omega arith,
      reads_push n.aligned.masked (lowest_size n.aligned) w (g / 2 ^ (8 - w)) (omega arith)
          (λ j h. sym (byte_is ks r.column n.bytes n.kinds j (omega arith)) ∙ first_byte_zero l j (omega arith)) (first_are n e w b few) f q,
    );
  }

  pub reads_next_skip : {w : ℕ} → ZeroBytesFirst k 0 → NoData k w → s.column ≡ r.column + w → s.n ≡ r.n → s.value ≡ r.value → s.bits ≡ r.bits
      → ReadsNext k x left out out r s
  reads_next_skip {w} l u e f g h = record {
    go = λ ks sq row b n.
        let q = subst (Skipped ks r.column) (sym e) (passed ks r.column n.bytes n.kinds (omega arith) (λ z. omega (arith, l.first z)) u) in
        (omega arith, q.most, reads_skip n.aligned.masked (lowest_size n.aligned) q f g h);
  }

-- Eight bytes of a list that end with it, shifted down.
down : (s : List ℕ) (c left : ℕ) {x : ℕ} → left ≤ 8 → 8 ≤ length s → c + left ≡ length s → ((i : ℕ) → get_or s i 0 < 256) → x ≡ eight_of (behind s (length s - 8))
    → x / 2 ^ (64 - 8 * left) ≡ eight_of (behind s c)
down s c left {x} few big e bytes f =
    let i : 64 - 8 * left ≡ 8 * (8 - left) = omega arith in
    rw (f, i) (eight_down (8 - left) (behind s c) (behind s (length s - 8)) (λ y. bytes (length s - 8 + y))
    (λ y h. get_or-eq_default s 0 {n = length s - 8 + y} (omega arith)) (λ y. let j : length s - 8 + (8 - left + y) ≡ c + y = omega arith in rw j))

module _ {ks sq row : List ℕ} (a : Aligned ks sq row) (bytes : (i : ℕ) → get_or ks i 0 < 256) (big : 8 ≤ length ks) where
  -- the eight modules that end a row, unmasked
  abbrev tail : List ℕ
  tail = run 8 (unmasked_at sq row (length ks - 8))

  pub last_moves : {out out' : List ℕ} {r s : Run} {k x : ℕ} → r.column < length ks → length ks ≤ r.column + 8
      → k ≡ eight_of (behind ks (length ks - 8)) → x ≡ eight_of (unmasked_at sq row (length ks - 8))
      → ReadsNext (k / 2 ^ (64 - 8 * (length ks - r.column))) (x / 2 ^ (64 - 8 * (length ks - r.column))) (length ks - r.column) out out' r s
      → (r.column < s.column) × (s.column ≤ length ks) × ReadsColumns ks (lowest sq) row out out' r s
  unfolding run
  last_moves {r = r} lo hi e f m =
      let left = length ks - r.column in
      let small = run_small 4 8 (unmasked_at sq row (length ks - 8)) (lit< tt) (modules_small a (length ks - 8)) in
      m.go ks sq row (behind tail (8 - left))
      (record {
        aligned = a;
        bytes = bytes;
        kinds = down ks r.column left (omega arith) big (omega arith) bytes e;
        inside = omega arith;
        modules = down tail (8 - left) left (omega arith) (omega arith) (omega arith) (λ i. omega (arith, small i)) f;
        small = λ i. small (8 - left + i);
        bits = λ i h. let z : length ks - 8 + (8 - (length ks - r.column) + i) ≡ r.column + i = omega arith in
            ap (λ (y : ℕ). y % 2) (run_at 8 (unmasked_at sq row (length ks - 8)) (8 - left + i) (omega arith)) ∙ modules_bits a (length ks - 8) (8 - left + i)
            ∙ ap (λ (j : ℕ). bit_xor (get_or (lowest sq) j 0) (get_or row j 0)) z;
      })
