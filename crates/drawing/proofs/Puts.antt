-- Bits into data modules.
use Rattle.general.proofs.Names.{◌≡◌, refl, ap, ◌∙◌, sym, ◌≢◌, List, [], ◌∷◌, ◌++◌, append_assoc, append-nil, ℕ, zero, suc, ◌+◌, ◌-◌, ◌*◌, ◌/◌, ◌%◌, ◌^◌, ◌<◌}
use Rattle.general.proofs.Names.{◌≤◌, one-add, add-one, add-zero, zero-add, add-suc, suc-add, arith, T, eqb, eqb→eq, length, get_or, take, drop, set}
use Rattle.general.proofs.Names.{length-set, length-append, drop_of_length-le, sets, sets-eq, length-sets, take_at, drop_at, drop-cons, take-suc}
use Rattle.general.proofs.Names.{get_or-eq_default, take_all, get_or-take, get_or-drop, length-take-le, drop-drop, bit_xor, bit_and, xor_lt, and_le_r}
use Rattle.general.proofs.Finite.{up_to, every}
use Rattle.bits.specs.Bits.{low_bits, bits_of, value}
use Rattle.bits.proofs.Reading.{length_bits, bit_lt, length_left}
use Rattle.bits.proofs.Window.{window_none, window_more, window_read}
use Rattle.bits.proofs.Bytes.{low_value, take_small}
use Rattle.symbol.specs.Layout.{data_modules}
use Rattle.symbol.proofs.DataModules.{module_hit, module_miss}
use Rattle.codewords.specs.Codewords.{placed}
use Rattle.placement.specs.Walk.{eight_of, run, behind, bytes_of, Skipped}
use Rattle.drawing.specs.Puts.{pattern_of, PatternsFrom, Placing, PutBit, PutEight, RowBuffers, Puts, PutsAll}
use Rattle.drawing.specs.declared.Cursor.{Cursor}
use Rattle.placement.proofs.Walk.{length_run, run_front}
use Rattle.placement.proofs.Eights.{bytes_eight, eight_zero, xor_eight}

-- Eight bits set apart: a test that antt computes.

spread_test : T (up_to (λ (v : ℕ). eqb (bit_and (v / 16 * 134480385 / 8) 16843009 + bit_and (v % 16 * 134480385 / 8) 16843009 * 4294967296)
    (eight_of (behind (low_bits 8 v) 0))) 256)
unfolding low_bits
spread_test = tt

pub spread_is : (v : ℕ) → v < 256
    → bit_and (v / 16 * 134480385 / 8) 16843009 + bit_and (v % 16 * 134480385 / 8) 16843009 * 4294967296 ≡ eight_of (behind (low_bits 8 v) 0)
spread_is v h =
    eqb→eq _ _
    (every (λ (v : ℕ). eqb (bit_and (v / 16 * 134480385 / 8) 16843009 + bit_and (v % 16 * 134480385 / 8) 16843009 * 4294967296)
    (eight_of (behind (low_bits 8 v) 0))) 256 spread_test v h)

pub spread_lt : (x : ℕ) → bit_and x 16843009 < 16843010
spread_lt x = omega (arith, and_le_r x 16843009)

-- eight bits out of two bytes
pub window_two : (s : List ℕ) (bit a b : ℕ) → bit / 8 + 1 < length s → (a < 256) × (b < 256) → a ≡ get_or s (bit / 8) 0 → b ≡ get_or s (bit / 8 + 1) 0
    → (a * 256 + b) / 2 ^ (8 - bit % 8) % 256 ≡ value 0 (take 8 (drop bit (bits_of s)))
window_two s bit a b h l e f =
    let one = window_more s (bit / 8) 0 a (omega arith) l.0 (rw add-zero e) in
    let n : 0 * 256 + a ≡ a = omega arith in
    let o : 8 * (bit / 8) + bit % 8 ≡ bit = omega arith in
    rw (rw (← window_none s (bit / 8), n) at one, window_more s (bit / 8) 1 b (omega arith) l.1 f)
    (rw o at (window_read s (bit / 8) 2 (bit % 8) 8 (8 - bit % 8) (omega arith) (omega arith)))

-- eight bytes stored one by one
pub put_room : (s : List ℕ) (at a b c d e f g : ℕ) → at + 8 ≤ length s
    → (at + 1 < length (set s at a)) × (at + 2 < length (set (set s at a) (at + 1) b)) × (at + 3 < length (set (set (set s at a) (at + 1) b) (at + 2) c))
    × (at + 4 < length (set (set (set (set s at a) (at + 1) b) (at + 2) c) (at + 3) d))
    × (at + 5 < length (set (set (set (set (set s at a) (at + 1) b) (at + 2) c) (at + 3) d) (at + 4) e))
    × (at + 6 < length (set (set (set (set (set (set s at a) (at + 1) b) (at + 2) c) (at + 3) d) (at + 4) e) (at + 5) f))
    × (at + 7 < length (set (set (set (set (set (set (set s at a) (at + 1) b) (at + 2) c) (at + 3) d) (at + 4) e) (at + 5) f) (at + 6) g))
put_room s at a b c d e f g h =
    simp length-set (omega arith, omega arith, omega arith, omega arith, omega arith, omega arith, omega arith)

pub put_is : (s : List ℕ) (at a b c d e f g h : ℕ)
    → set (set (set (set (set (set (set (set s at a) (at + 1) b) (at + 2) c) (at + 3) d) (at + 4) e) (at + 5) f) (at + 6) g) (at + 7) h
    ≡ sets s at (a ∷ b ∷ c ∷ d ∷ e ∷ f ∷ g ∷ h ∷ [])
put_is s at a b c d e f g h = rw (add-suc at 6, add-suc at 5, add-suc at 4, add-suc at 3, add-suc at 2, add-suc at 1, add-one)

-- behind the last bit the mask is left
pub put_none : (cw sq : List ℕ) (at bit inverted : ℕ) → 8 * length cw ≤ bit → PutBit at bit inverted cw sq (set sq at inverted) bit
put_none cw sq at bit inverted h =
    let n = length_bits cw in
    record {
      is = rw (get_or-eq_default (bits_of cw) 0 {n = bit} (omega arith));
      left = drop_of_length-le (bits_of cw) {i = bit} (omega arith) ∙ sym (drop_of_length-le (bits_of cw) {i = bit + 1} (omega arith));
    }

-- eight bits of the codewords under their mask, as bytes
pub masked_bytes : {v u x : ℕ} (cw row : List ℕ) (bit c : ℕ) → bit + 8 ≤ 8 * length cw → ((k : ℕ) → get_or row k 0 < 2)
    → v ≡ value 0 (take 8 (drop bit (bits_of cw))) → u ≡ eight_of (behind (low_bits 8 v) 0) → x ≡ eight_of (behind row c)
    → bytes_of (bit_xor u x) ≡ run 8 (λ k. bit_xor (get_or (bits_of cw) (bit + k) 0) (get_or row (c + k) 0))
masked_bytes {v} {u} {x} cw row bit c h small e f g =
    let eight = take 8 (drop bit (bits_of cw)) in
    let s : (k : ℕ) → get_or (take 8 (drop bit (bits_of cw))) k 0 < 2 = take_small 8 (drop bit (bits_of cw)) (λ k. rw get_or-drop (bit_lt cw (bit + k))) in
    let low = low_value eight s in
    let n : length (take 8 (drop bit (bits_of cw))) ≡ 8 = length-take-le 8 (drop bit (bits_of cw)) (omega (arith, length_left cw bit)) in
    let q : (k : ℕ) → get_or (take 8 (drop bit (bits_of cw))) (0 + k) 0 < 256 = λ k. omega (arith, s (0 + k)) in
    let r : (k : ℕ) → get_or row (c + k) 0 < 256 = λ k. omega (arith, small (c + k)) in
    rw (f, g, e, rw n at low, xor_eight (behind eight 0) (behind row c) q r)
    (bytes_eight (λ k. bit_xor (behind eight 0 k) (behind row c k)) (λ k. xor_lt 8 (behind eight 0 k) (behind row c k) (q k) (r k))
    ∙ run_front 8 _ _ (λ k l. simp (zero-add, get_or-take, get_or-drop)))

-- Placed in front.

module _ (m : ℕ → ℕ) where
  -- a data module: the first bit, or a zero bit where none is left
  hit : (i k : ℕ) (us ds : List ℕ) → k ≡ 0 → placed m i (k ∷ us) ds ≡ bit_xor (get_or ds 0 0) (m i) ∷ placed m (suc i) us (drop 1 ds)
  unfolding placed
  hit i zero us [] e = refl
  hit i zero us (d ∷ ds) e = refl
  hit i (suc k) us ds e = absurd (omega arith)

  miss : (i k : ℕ) (us ds : List ℕ) → k ≢ 0 → placed m i (k ∷ us) ds ≡ pattern_of k ∷ placed m (suc i) us ds
  unfolding placed pattern_of
  miss i zero us ds e = absurd (e refl)
  miss i (suc zero) us ds e = refl
  miss i (suc (suc zero)) us ds e = refl
  miss i (suc (suc (suc k))) us ds e = refl

  place_hits : (n c : ℕ) (ks ds : List ℕ) → c + n ≤ length ks → ((k : ℕ) → k < n → get_or ks (c + k) 0 ≡ 0)
      → placed m c (drop c ks) ds ≡ run n (λ k. bit_xor (get_or ds k 0) (m (c + k))) ++ placed m (c + n) (drop (c + n) ks) (drop n ds)
  unfolding run
  place_hits zero c ks ds h z = simp add-zero
  place_hits (suc n) c ks ds h z =
      let ih = place_hits n (suc c) ks (drop 1 ds) (omega arith) (λ k l. simp suc-add (simp add-suc at (z (suc k) (omega arith)))) in
      rw (drop-cons ks c 0 (omega arith), hit c _ _ _ (simp add-zero at (z 0 (omega arith))))
      (simp (add-zero, add-suc, simp (suc-add, get_or-drop, drop-drop, one-add) at ih))

  place_miss : (c : ℕ) (ks ds : List ℕ) → c < length ks → get_or ks c 0 ≢ 0
      → placed m c (drop c ks) ds ≡ pattern_of (get_or ks c 0) ∷ placed m (suc c) (drop (suc c) ks) ds
  place_miss c ks ds h z = rw (drop-cons ks c 0) (miss c _ _ ds z)

-- data modules counted from a column on
modules_hits : (n c : ℕ) (ks : List ℕ) → c + n ≤ length ks → ((k : ℕ) → k < n → get_or ks (c + k) 0 ≡ 0)
    → data_modules (drop c ks) ≡ n + data_modules (drop (c + n) ks)
modules_hits zero c ks h z = rw add-zero (omega arith)
modules_hits (suc n) c ks h z =
    let ih = modules_hits n (suc c) ks (omega arith) (λ k l. simp suc-add (simp add-suc at (z (suc k) (omega arith)))) in
    rw (drop-cons ks c 0 (omega arith), module_hit _ _ (simp add-zero at (z 0 (omega arith))), add-suc) (omega (arith, simp suc-add at ih))

-- From column to column.

module _ {m : ℕ → ℕ} {ks whole after sq ds : List ℕ} {c : ℕ} (p : Placing m ks whole after sq ds c) where
  -- n data modules
  placing_hits : {sq' : List ℕ} (n : ℕ) → c + n ≤ length ks → ((k : ℕ) → k < n → get_or ks (c + k) 0 ≡ 0)
      → sq' ≡ sets sq c (run n (λ k. bit_xor (get_or ds k 0) (m (c + k)))) → Placing m ks whole after sq' (drop n ds) (c + n)
  placing_hits {sq'} n h z f =
      let new = run n (λ k. bit_xor (get_or ds k 0) (m (c + k))) in
      let w : length (take c sq ++ run n (λ k. bit_xor (get_or ds k 0) (m (c + k)))) ≡ c + n =
      simp (length-append, length_run, length-take-le c sq (omega arith)) in
      let q : sq' ≡ take c sq ++ run n (λ k. bit_xor (get_or ds k 0) (m (c + k))) ++ drop (c + n) sq =
      f ∙ (simp length_run at (sets-eq new sq c (omega (arith, length_run n (λ k. bit_xor (get_or ds k 0) (m (c + k))))))) in
      record {
        size = ap length f ∙ length-sets sq c new ∙ p.size;
        few = h;
        is = rw (q, take_at (take c sq ++ new) _ (c + n) w, append_assoc, ← place_hits m n c ks ds h z) p.is;
        left = rw (drop-drop, ← modules_hits n c ks h z) p.left;
        patterns = record {
          is = λ k lo hi.
              let g : c + n + (k - (c + n)) ≡ k = omega arith in
              let back = get_or-drop (c + n) sq' (k - (c + n)) 0 in
              rw q (sym (rw (g, q, drop_at (take c sq ++ new) _ (c + n) w, get_or-drop, g) at back) ∙ p.patterns.is k (omega arith) hi);
        };
      }

  -- a module that stays as it is
  placing_miss : c < length ks → get_or ks c 0 ≢ 0 → Placing m ks whole after sq ds (suc c)
  placing_miss h z =
      record {
        size = p.size;
        few = h;
        is = rw (take-suc sq c 0 (omega arith), p.patterns.is c (omega arith) h, append_assoc, ← place_miss m c ks ds h z) p.is;
        left = rw (drop-cons ks c 0 h, module_miss (get_or ks c 0) (drop (suc c) ks) z) at p.left;
        patterns = record { is = λ k lo hi. p.patterns.is k (omega arith) hi };
      }

-- n modules that stay
placing_skip : {m : ℕ → ℕ} {ks whole after sq ds : List ℕ} (n c : ℕ) → c + n ≤ length ks → ((k : ℕ) → c ≤ k → k < c + n → get_or ks k 0 ≢ 0)
    → Placing m ks whole after sq ds c → Placing m ks whole after sq ds (c + n)
placing_skip zero c h z p = rw add-zero p
placing_skip (suc n) c h z p =
    rw (add-suc, ← suc-add) (placing_skip n (suc c) (omega arith) (λ k lo hi. z k (omega arith) (omega arith))
    (placing_miss p (omega arith) (z c (omega arith) (omega arith))))

module _ {ks row cw sq sq' : List ℕ} {p q : Cursor} where
  pub puts_one : p.column < length ks → get_or ks p.column 0 ≡ 0 → q.column ≡ p.column + 1
      → PutBit p.column p.bit (get_or row p.column 0) cw sq sq' q.bit → Puts ks row cw sq sq' p q
  unfolding run
  puts_one h z e b = record {
    go = λ whole after g. rw (e, b.left, ← drop-drop)
        (placing_hits g 1 (omega arith) (λ i l. let y : p.column + i ≡ p.column = omega arith in rw y z) (simp (add-zero, get_or-drop) b.is));
  }

  pub puts_eight : {kinds : ℕ} → p.column + 8 ≤ length ks → kinds ≡ eight_of (behind ks p.column) → kinds ≡ 0
      → PutEight row cw sq sq' p q → Puts ks row cw sq sq' p q
  puts_eight {kinds} h e z u = record {
    go = λ whole after g. rw (u.column_is, u.bit_is, ← drop-drop)
        (placing_hits g 8 h (eight_zero (behind ks p.column) (sym e ∙ z)) (simp get_or-drop u.is));
  }

pub puts_skip : {ks row cw sq : List ℕ} {p q : Cursor} → Skipped ks p.column q.column → q.bit ≡ p.bit → Puts ks row cw sq sq p q
puts_skip {ks} {row} {cw} {sq} {p} {q} s e = record {
  go = λ whole after g.
      let f : p.column + (q.column - p.column) ≡ q.column = omega arith in
      rw e (rw f at (placing_skip (q.column - p.column) p.column (omega arith) (λ k lo hi. s.none k lo (omega arith)) g));
}

pub puts_none : {ks row cw sq : List ℕ} {p : Cursor} → Puts ks row cw sq sq p p
puts_none = record { go = λ whole after g. g }

pub puts_on : {ks row cw a b c : List ℕ} {p q r : Cursor} → Puts ks row cw a b p q → Puts ks row cw b c q r → Puts ks row cw a c p r
puts_on f g = record { go = λ whole after k. g.go whole after (f.go whole after k) }

-- the end of a row
pub puts_all : {ks row cw a b : List ℕ} {p q : Cursor} → Puts ks row cw a b p q → length ks ≤ q.column → PutsAll ks row cw a b p q.bit
unfolding placed data_modules
puts_all {ks} {row} {cw} {a} {b} {p} {q} f h = record {
  go = λ whole after k.
      let g = f.go whole after k in
      let none : drop q.column ks ≡ [] = drop_of_length-le ks {i = q.column} h in
      (sym (append-nil b) ∙ (rw (take_all q.column b (omega arith), none) at g.is), rw none at g.left);
}

pub puts_end : {ks row cw a b c : List ℕ} {p q : Cursor} {bit : ℕ} → Puts ks row cw a b p q → PutsAll ks row cw b c q bit → PutsAll ks row cw a c p bit
puts_end f g = record { go = λ whole after k. g.go whole after (f.go whole after k) }

-- a whole row
pub placing_begun : (m : ℕ → ℕ) (ks sq ds : List ℕ) → length sq ≡ length ks → PatternsFrom ks sq 0 → Placing m ks (placed m 0 ks ds) (drop (data_modules ks) ds) sq ds 0
placing_begun m ks sq ds e d = record { size = e; few = omega arith; is = refl; left = refl; patterns = d }

pub row_buffers_kept : {sq sq' ks row cw : List ℕ} → length sq' ≡ length sq → RowBuffers sq ks row cw → RowBuffers sq' ks row cw
row_buffers_kept e b = record { side = b.side; size = e ∙ b.size; room = b.room; masks = b.masks; few = b.few }

pub pattern_light : (k : ℕ) → k < 3 → 0 ≡ pattern_of k
unfolding pattern_of
pattern_light zero h = refl
pattern_light (suc zero) h = refl
pattern_light (suc (suc zero)) h = refl
pattern_light (suc (suc (suc k))) h = absurd (omega arith)

pub pattern_dark : (k : ℕ) → 3 ≤ k → 1 ≡ pattern_of k
unfolding pattern_of
pattern_dark zero h = absurd (omega arith)
pattern_dark (suc zero) h = absurd (omega arith)
pattern_dark (suc (suc zero)) h = absurd (omega arith)
pattern_dark (suc (suc (suc k))) h = refl
