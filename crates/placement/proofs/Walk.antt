-- Bits behind bits, and the walk over a row.
use Rattle.general.proofs.Names.{◌≡◌, refl, ap, ap₂, ◌∙◌, sym, ◌≢◌, List, [], ◌∷◌, ◌++◌, append_assoc, ℕ, zero, suc, ◌+◌, ◌-◌, ◌*◌, ◌/◌, ◌%◌, ◌^◌, ◌<◌, ◌≤◌}
use Rattle.general.proofs.Names.{mod-lt, mod-eq_of_lt, pow-le-pow_right, arith, add-one, zero-add, suc-add, add-suc, add-zero, add_assoc, add_comm, dec_lt, lit<}
use Rattle.general.proofs.Names.{length, length-map, get_or, drop, set, length-set, length-append, take_at, drop_at, drop-cons, take-suc-set, bit_xor, xor_lt, xor_mod}
use lib.Arith.{digits_lt}
use lib.Pow.{pow_pos, pow-add, shl_lt, shr-shr, split, high, low, field, mod-mod-pow}
use Rattle.bits.specs.Bits.{low_bits, value, first_words, groups}
use Rattle.bits.proofs.Words.{length_low, low_back}
use Rattle.bits.proofs.Bytes.{value_add, value_small, low_value}
use Rattle.information.specs.Inner.{lowest}
use Rattle.information.proofs.Copies.{lowest_at}
use Rattle.codewords.specs.Codewords.{data_bits}
use Rattle.placement.specs.Walk.{bits_from, byte_of, eight_of, run, Gathered, FewPending, Words, Stored, Pushed, Masked, unmasked_at, Aligned, Skipped}
use Rattle.placement.specs.Walk.{row_bits, ReadsColumns}
use Rattle.placement.specs.declared.Run.{Run}

-- Bits of a number.

-- those above do not matter
pub low_mod : (n k v : ℕ) → n ≤ k → low_bits n (v % 2 ^ k) ≡ low_bits n v
unfolding low_bits
low_mod zero k v h = refl
low_mod (suc n) k v h =
    let e : k ≡ k - suc n + 1 + n = omega arith in
    ap₂ ◌∷◌ (rw (e, field v (k - suc n + 1) n) (mod-mod-pow (v / 2 ^ n) (k - suc n) 1)) (low_mod n k v (omega arith))

-- bits behind bits are the bits of one number
low_join : (a b p q : ℕ) → q < 2 ^ b → low_bits a p ++ low_bits b q ≡ low_bits (a + b) (p * 2 ^ b + q)
unfolding low_bits
low_join zero b p q h = rw (zero-add, ← low_mod b b (p * 2 ^ b + q) (omega arith), low p b h)
low_join (suc a) b p q h = rw (suc-add, low_join a b p q h, add_comm a b, ← shr-shr (p * 2 ^ b + q) b a, high p b h)

-- eight in front of the others
low_apart : (n v : ℕ) → n ≤ 8 → low_bits (8 + n) v ≡ low_bits 8 (v / 2 ^ n % 256) ++ low_bits n (v % 256)
low_apart n v h =
    ap (low_bits (8 + n)) (sym (split v n)) ∙ sym (low_join 8 n (v / 2 ^ n) (v % 2 ^ n) (mod-lt v (pow_pos n)))
    ∙ ap₂ ◌++◌ (sym (low_mod 8 8 (v / 2 ^ n) (omega arith))) (low_mod n n v (omega arith) ∙ sym (low_mod n 8 v h))

-- n bits, and the number that they say
pub length_run : (n : ℕ) (b : ℕ → ℕ) → length (run n b) ≡ n
unfolding run
length_run zero b = refl
length_run (suc n) b = ap suc (length_run n (λ k. b (suc k)))

pub run_small : (m n : ℕ) (b : ℕ → ℕ) → 0 < m → ((k : ℕ) → b k < m) → (i : ℕ) → get_or (run n b) i 0 < m
unfolding run
run_small m zero b p h i = p
run_small m (suc n) b p h zero = h 0
run_small m (suc n) b p h (suc i) = run_small m n (λ k. b (suc k)) p (λ k. h (suc k)) i

pub run_at : (n : ℕ) (b : ℕ → ℕ) (i : ℕ) → i < n → get_or (run n b) i 0 ≡ b i
unfolding run
run_at zero b i h = absurd (omega arith)
run_at (suc n) b zero h = refl
run_at (suc n) b (suc i) h = run_at n (λ k. b (suc k)) i (omega arith)

pub run_front : (n : ℕ) (a b : ℕ → ℕ) → ((k : ℕ) → k < n → a k ≡ b k) → run n a ≡ run n b
unfolding run
run_front zero a b e = refl
run_front (suc n) a b e = ap₂ ◌∷◌ (e 0 (omega arith)) (run_front n (λ k. a (suc k)) (λ k. b (suc k)) (λ k h. e (suc k) (omega arith)))

pub run_ext : (n : ℕ) (a b : ℕ → ℕ) → ((k : ℕ) → a k ≡ b k) → run n a ≡ run n b
run_ext n a b e = run_front n a b (λ k h. e k)

pub run_low : (n x : ℕ) (b : ℕ → ℕ) → ((k : ℕ) → b k < 2) → value 0 (run n b) ≡ x → run n b ≡ low_bits n x
run_low n x b h e = sym (low_value (run n b) (run_small 2 n b (lit< tt) h)) ∙ ap₂ low_bits (length_run n b) e

pub run_eight : (b : ℕ → ℕ) → value 0 (run 8 b) ≡ byte_of b
unfolding run value
run_eight b = omega arith

-- those before a place in front of the others
run_split : (a b : ℕ) (f : ℕ → ℕ) → run (a + b) f ≡ run a f ++ run b (λ k. f (a + k))
unfolding run
run_split zero b f = simp zero-add
run_split (suc a) b f = simp (suc-add, run_split a b (λ k. f (suc k)))

value_behind : (v : ℕ) (us vs : List ℕ) → value v (us ++ vs) ≡ value (value v us) vs
unfolding value
value_behind v [] vs = refl
value_behind v (u ∷ us) vs = value_behind (v * 2 + u) us vs

module _ (f : ℕ → ℕ) (small : (k : ℕ) → f k < 2) where
  run_lt : (n : ℕ) (g : ℕ → ℕ) → ((k : ℕ) → g k < 2) → value 0 (run n g) < 2 ^ n
  run_lt n g h = rw length_run at (value_small (run n g) (run_small 2 n g (lit< tt) h))

  value_split : (a b : ℕ) → value 0 (run (a + b) f) ≡ value 0 (run a f) * 2 ^ b + value 0 (run b (λ k. f (a + k)))
  value_split a b = rw (run_split a b f, value_behind, value_add (value 0 (run a f)) (run b (λ k. f (a + k))), length_run)

  -- the first n, and the others
  pub first_value : (n p : ℕ) → value 0 (run (n + p) f) / 2 ^ p ≡ value 0 (run n f)
  first_value n p = rw (value_split n p, high (value 0 (run n f)) p (run_lt p (λ k. f (n + k)) (λ k. small (n + k))))

  pub last_value : (n w : ℕ) → value 0 (run (n + w) f) % 2 ^ w ≡ value 0 (run w (λ k. f (n + k)))
  last_value n w = rw (value_split n w, low (value 0 (run n f)) w (run_lt w (λ k. f (n + k)) (λ k. small (n + k))))

-- bytes below 4 gathered, and bits
pub gathered_lowest : {x g : ℕ} (b : ℕ → ℕ) → ((k : ℕ) → b k < 4) → x ≡ eight_of b → Gathered x g → g ≡ value 0 (run 8 (λ k. b k % 2))
gathered_lowest b h e g = g.is b h e ∙ sym (run_eight (λ k. b k % 2))

pub gathered_is : {x g : ℕ} (b : ℕ → ℕ) → ((k : ℕ) → b k < 2) → x ≡ eight_of b → Gathered x g → g ≡ value 0 (run 8 b)
gathered_is b h e g =
    gathered_lowest b (λ k. omega (arith, h k)) e g ∙ ap (value 0) (run_ext 8 (λ k. b k % 2) b (λ k. mod-eq_of_lt (h k)))

-- Codewords.

module _ {total : ℕ} {all out : List ℕ} {n : ℕ} where
  -- a codeword is stored where there is room, and nothing changes where there is none
  words_next : {out' : List ℕ} {n' : ℕ} (y : ℕ) (tail : List ℕ) → y < 256 → Stored n y out out' n' → Words total all out (low_bits 8 y ++ tail) n
      → Words total all out' tail n'
  unfolding first_words groups
  words_next {out'} {n'} y tail small s w = elim (dec_lt n total) [
    | yes h ↦ (let l : n < length out = omega arith in
        rw ((s.room l).1, (s.room l).0) (more h l))
    | no h ↦ (let k = s.full (omega arith) in
        let z : total - n ≡ 0 = omega arith in
        rw (k.1, k.0) (record { size = w.size; few = w.few; enough = omega arith; is = rw z (rw z at w.is) }))
  ]
    where
      more : n < total → n < length out → Words total all (set out n y) tail (n + 1)
      more h l =
          let k : total - n ≡ suc (total - suc n) = omega arith in
          let eight = length_low 8 y in
          record {
            size = length-set out n y ∙ w.size;
            few = omega arith;
            enough = omega (arith, length-append (low_bits 8 y) tail);
            is = rw (add-one, take-suc-set, append_assoc)
                (rw (k, take_at (low_bits 8 y) tail 8 eight, low_back 8 y small, drop_at (low_bits 8 y) tail 8 eight) at w.is);
          }

-- Bits pushed behind pending ones.

module _ {r : Run} (p : FewPending r) (w x : ℕ) (short : w ≤ 8) (hx : x < 2 ^ w) where
  pub shifted_lt : r.value * 2 ^ w < 2 ^ (8 + r.bits + w)
  shifted_lt = shl_lt (8 + r.bits) w p.small

  pub shifted : r.value * 2 ^ w % 18446744073709551616 ≡ r.value * 2 ^ w
  shifted = mod-eq_of_lt (omega (arith, shifted_lt, pow-le-pow_right {n = 2} (lit< tt) {i = 8 + r.bits + w} {j = 23} (omega (arith, p.few))))

  pub sum_lt : r.value * 2 ^ w + x < 2 ^ (8 + (r.bits + w))
  sum_lt = rw (← add_assoc 8 r.bits w, pow-add 2 (8 + r.bits) w) (digits_lt p.small hx)

  pub sum_small : r.value * 2 ^ w + x < 8388608
  sum_small = omega (arith, sum_lt, pow-le-pow_right {n = 2} (lit< tt) {i = 8 + (r.bits + w)} {j = 23} (omega (arith, p.few)))

  together : (rest : List ℕ) → low_bits r.bits r.value ++ (low_bits w x ++ rest) ≡ low_bits (r.bits + w) (r.value * 2 ^ w + x) ++ rest
  together rest = rw (← append_assoc, low_join r.bits w r.value x hx)

  -- still fewer than eight
  pub few_pushed : {s : Run} {out : List ℕ} → s.value ≡ r.value * 2 ^ w + x → s.bits ≡ r.bits + w → s.n ≡ r.n → r.bits + w < 8
      → FewPending s × Pushed w x out out r s
  few_pushed {s} {out} v b n h = (
    record { few = omega arith; small = rw (b, v) sum_lt },
    record { go = λ total all rest k. record { words = rw (n, b, v, ← together rest) k.words } },
  )

  -- a codeword, and what is left
  pub full_pushed : {s : Run} {out out' : List ℕ} (left : ℕ) → r.bits + w ≡ 8 + left → s.value ≡ (r.value * 2 ^ w + x) % 256 → s.bits ≡ left
      → Stored r.n ((r.value * 2 ^ w + x) / 2 ^ left % 256) out out' s.n → FewPending s × Pushed w x out out' r s
  full_pushed {s} {out} {out'} left l v b st = (
    record { few = omega arith; small = omega (arith, pow-le-pow_right {n = 2} (lit< tt) {i = 8} {j = 8 + s.bits} (omega arith)) },
    record {
      go = λ total all rest k. record {
        words = rw (b, v) (words_next _ _ (mod-lt _ (lit< tt)) st
            (rw (together rest, l, low_apart left (r.value * 2 ^ w + x) (omega arith), append_assoc) at k.words));
      };
    },
  )

-- The data bits from a place on.

module _ (m : ℕ → ℕ) (ks sq : List ℕ) (same : length sq ≤ length ks) where
  opened : (i : ℕ) → i < length sq → bits_from m ks sq i ≡ data_bits m i (get_or ks i 0 ∷ drop (suc i) ks) (get_or sq i 0 ∷ drop (suc i) sq)
  opened i h = ap₂ (data_bits m i) (drop-cons ks i 0 (omega arith)) (drop-cons sq i 0 h)

  hit : (i k : ℕ) (us vs : List ℕ) → k ≡ 0 → data_bits m i (k ∷ us) (get_or sq i 0 ∷ vs) ≡ bit_xor (get_or sq i 0) (m i) ∷ data_bits m (suc i) us vs
  unfolding data_bits
  hit i zero us vs e = refl
  hit i (suc k) us vs e = absurd (omega arith)

  miss : (i k : ℕ) (us vs : List ℕ) → k ≢ 0 → data_bits m i (k ∷ us) (get_or sq i 0 ∷ vs) ≡ data_bits m (suc i) us vs
  unfolding data_bits
  miss i zero us vs e = absurd (e refl)
  miss i (suc k) us vs e = refl

  -- n data modules in front
  pub from_hits : (n i : ℕ) → i + n ≤ length sq → ((k : ℕ) → k < n → get_or ks (i + k) 0 ≡ 0)
      → bits_from m ks sq i ≡ run n (λ k. bit_xor (get_or sq (i + k) 0) (m (i + k))) ++ bits_from m ks sq (i + n)
  unfolding run
  from_hits zero i h z = rw add-zero
  from_hits (suc n) i h z =
      let ih = from_hits n (suc i) (omega arith) (λ k l. simp suc-add (simp add-suc at (z (suc k) (omega arith)))) in
      opened i (omega arith) ∙ hit i _ _ _ (simp add-zero at (z 0 (omega arith))) ∙ simp (add-zero, add-suc, simp suc-add at ih)

  -- n modules that are not
  pub from_misses : (n i : ℕ) → i + n ≤ length sq → ((k : ℕ) → i ≤ k → k < i + n → get_or ks k 0 ≢ 0) → bits_from m ks sq i ≡ bits_from m ks sq (i + n)
  from_misses zero i h z = rw add-zero
  from_misses (suc n) i h z =
      rw (add-suc, ← suc-add) (opened i (omega arith) ∙ miss i _ _ _ (z i (omega arith) (omega arith))
      ∙ from_misses n (suc i) (omega arith) (λ k a b. z k (omega arith) (omega arith)))

-- From column to column.

module _ {sq row : List ℕ} (a : Masked sq row) where
  pub bits_small : (c k : ℕ) → unmasked_at sq row c k < 2
  bits_small c k = xor_lt 1 (get_or sq (c + k) 0) (get_or row (c + k) 0) (a.modules (c + k)) (a.masks (c + k))

pub length_lowest : (g : List ℕ) → length (lowest g) ≡ length g
length_lowest g = length-map g (λ m. m % 2)

-- Modules under a mask: their lowest bits are those of the lowest bits under the mask.
module _ {ks sq row : List ℕ} (a : Aligned ks sq row) where
  pub modules_small : (c k : ℕ) → unmasked_at sq row c k < 4
  modules_small c k = xor_lt 2 (get_or sq (c + k) 0) (get_or row (c + k) 0) (omega (arith, a.modules (c + k))) (omega (arith, a.masked.masks (c + k)))

  pub modules_bits : (c k : ℕ) → unmasked_at sq row c k % 2 ≡ unmasked_at (lowest sq) row c k
  modules_bits c k =
      xor_mod (get_or sq (c + k) 0) (get_or row (c + k) 0) 1 ∙ ap₂ bit_xor (lowest_at sq (c + k)) (mod-eq_of_lt (a.masked.masks (c + k)))

  pub lowest_size : length (lowest sq) ≡ length ks
  lowest_size = length_lowest sq ∙ a.size

  pub unmasked_is : (at : ℕ) {x g : ℕ} → x ≡ eight_of (unmasked_at sq row at) → Gathered x g → g ≡ value 0 (run 8 (unmasked_at (lowest sq) row at))
  unmasked_is at e g =
      gathered_lowest (unmasked_at sq row at) (modules_small at) e g
      ∙ ap (value 0) (run_ext 8 (λ k. unmasked_at sq row at k % 2) (unmasked_at (lowest sq) row at) (modules_bits at))

module _ {ks sq row : List ℕ} (a : Masked sq row) (size : length sq ≡ length ks) where
  -- n data modules pushed
  pub reads_push : {out out' : List ℕ} {r s : Run} (n x : ℕ) → r.column + n ≤ length ks → ((k : ℕ) → k < n → get_or ks (r.column + k) 0 ≡ 0)
      → x ≡ value 0 (run n (unmasked_at sq row r.column)) → s.column ≡ r.column + n → Pushed n x out out' r s → ReadsColumns ks sq row out out' r s
  reads_push {out} {out'} {r} {s} n x h z e f q = record {
    go = λ total all rest k. q.go total all (row_bits ks sq row s.column ++ rest)
        (rw (run_low n x (unmasked_at sq row r.column) (bits_small a r.column) (sym e), ← f, append_assoc)
        at (rw (from_hits (λ k. get_or row k 0) ks sq (omega arith) n r.column (omega arith) z) at k));
  }

  -- modules that are no data passed
  pub reads_skip : {out : List ℕ} {r s : Run} → Skipped ks r.column s.column
      → s.n ≡ r.n → s.value ≡ r.value → s.bits ≡ r.bits → ReadsColumns ks sq row out out r s
  reads_skip {out} {r} {s} q n v b = record {
    go = λ total all rest k.
        let e : r.column + (s.column - r.column) ≡ s.column = omega arith in
        let passed = from_misses (λ k. get_or row k 0) ks sq (omega arith) (s.column - r.column) r.column (omega arith)
        (λ k l h. q.none k l (omega arith)) in
        record { words = rw (n, b, v) (rw (passed, e) at k.words) };
  }

pub reads_none : {ks sq row out : List ℕ} {r : Run} → ReadsColumns ks sq row out out r r
reads_none = record { go = λ total all rest k. k }

pub reads_on : {ks sq row a b c : List ℕ} {r s t : Run} → ReadsColumns ks sq row a b r s → ReadsColumns ks sq row b c s t → ReadsColumns ks sq row a c r t
reads_on f g = record { go = λ total all rest k. g.go total all rest (f.go total all rest k) }
