-- Flags that are marked one module after the other.
use Rattle.general.proofs.Names.{◌≡◌, refl, sym, ap, ◌∙◌, ◌≢◌, List, [], ◌∷◌, map, ℕ, zero, suc, ◌+◌, ◌-◌, ◌*◌, ◌/◌, ◌%◌, ◌^◌, ◌<◌, ◌≤◌, add-zero, add-suc}
use Rattle.general.proofs.Names.{suc-add, add-one, arith, dec_lt, ℕ_discrete, lit<, length, get_or, set, take, drop, replicate, length-replicate, length-map}
use Rattle.general.proofs.Names.{length-set, take-add, ext_get_or, get_or-set_same, set-get_or, xor_zero_r, not-true}
use mathlib.Core.Bool.{Bool, true, not}
use lib.ListN.{get_or-map}
use Rattle.general.proofs.Each.{each_start, each_next}
use Rattle.symbol.specs.Layout.{data_modules}
use Rattle.symbol.proofs.DataModules.{module_hit, module_miss, modules_append, modules_more}
use Rattle.symbol.proofs.KindsLow.{set_any}
use Rattle.bits.specs.Bits.{first_words}
use Rattle.bits.proofs.Words.{first_length}
use Rattle.codewords.specs.Codewords.{data_bits}
use Rattle.codewords.proofs.Placement.{length_data, data_at}
use Rattle.codewords.proofs.Small.{data_below, codewords_below, words_none, zeros_below}
use Rattle.codewords.specs.Inner.{ModulesAndKinds}
use Rattle.flags.specs.Inner.{TellsRun, flagged, unknown_bits, FlagsUpTo}
use Rattle.flags.proofs.Words.{words_flagged}

-- The data modules before a place.

modules_mono : (ks : List ℕ) (a b : ℕ) → a ≤ b → data_modules (take a ks) ≤ data_modules (take b ks)
modules_mono ks a b h =
    let e : a + (b - a) ≡ b = omega arith in
    omega (arith, ap (λ (k : ℕ). data_modules (take k ks)) e, ap data_modules (take-add a (b - a) ks), modules_append (take a ks) (take (b - a) (drop a ks)))

module _ (ks : List ℕ) (i : ℕ) (l : i < length ks) where
  modules_next : get_or ks i 0 ≡ 0 → data_modules (take (i + 1) ks) ≡ data_modules (take i ks) + 1
  unfolding data_modules
  modules_next z = sym (modules_more ks (length ks) i _ 1 (omega arith) l (sym (module_hit _ [] z)) refl)

  modules_stay : get_or ks i 0 ≢ 0 → data_modules (take (i + 1) ks) ≡ data_modules (take i ks)
  unfolding data_modules
  modules_stay d = sym (modules_more ks (length ks) i _ 0 (omega arith) l (sym (module_miss _ [] d)) refl) ∙ add-zero _

-- The bits that are to be marked.

module _ (ks sq : List ℕ) where
  unknown_length : length (unknown_bits ks sq) ≡ data_modules (take (length sq) ks)
  unknown_length = length_data (λ i. 0) 0 ks (map (λ m. m / 2) sq) ∙ rw length-map

  unknown_at : (i : ℕ) → i < length sq → length sq ≤ length ks → get_or ks i 0 ≡ 0 → get_or (unknown_bits ks sq) (data_modules (take i ks)) 0 ≡ get_or sq i 0 / 2
  unknown_at i l h z =
      data_at (λ i. 0) 0 ks (map (λ m. m / 2) sq) i (omega arith) (rw length-map l) z ∙ xor_zero_r _ ∙ get_or-map (λ m. m / 2) sq i 0

  unknown_below : ((k : ℕ) → get_or sq k 0 < 3) → (k : ℕ) → get_or (unknown_bits ks sq) k 0 < 2
  unknown_below h =
      data_below (λ i. 0) (λ i. lit< tt) 0 ks (map (λ m. m / 2) sq) (λ k. rw (get_or-map (λ m. m / 2) sq k 0) (omega (arith, h k)))

  -- nothing is marked yet
  pub flags_start : (fs : List ℕ) → ModulesAndKinds ks sq → ((k : ℕ) → get_or fs k 0 ≡ 0) → 8 * length fs ≤ length (data_bits (λ i. 0) 0 ks sq)
      → FlagsUpTo ks sq 0 fs
  unfolding data_modules
  flags_start fs g z r =
      let none = replicate {A = ℕ} (length (unknown_bits ks sq)) 0 in
      record {
        given = g;
        room = omega (arith, length_data (λ i. 0) 0 ks sq, unknown_length);
        bits = none;
        front = each_start _ none;
        is = ext_get_or 0 fs (first_words 8 (length fs) none) (sym (first_length 8 (length fs) none))
            (λ k l. z k ∙ omega (arith, words_none (length fs) none (zeros_below 1 (length (unknown_bits ks sq)) (lit< tt)) k));
      }

module _ {ks sq fs : List ℕ} {i : ℕ} (u : FlagsUpTo ks sq i fs) where
  bits_length : length u.bits ≡ length (unknown_bits ks sq)
  bits_length = u.front.size ∙ length-replicate _ _

  bits_rest : (k : ℕ) → data_modules (take i ks) ≤ k → get_or u.bits k 0 ≡ 0
  bits_rest k h = u.front.rest k h ∙ omega (arith, zeros_below 1 (length (unknown_bits ks sq)) (lit< tt) k)

  bits_below : (k : ℕ) → get_or u.bits k 0 < 2
  bits_below k = elim (dec_lt k (data_modules (take i ks))) [
    | yes l ↦ rw (u.front.done k l) (unknown_below ks sq u.given.modules k)
    | no l ↦ omega (arith, bits_rest k (omega arith))
  ]

  -- all modules are marked
  pub flags_end : i ≡ length sq → fs ≡ first_words 8 (length fs) (unknown_bits ks sq)
  flags_end e =
      let n : data_modules (take i ks) ≡ length (unknown_bits ks sq) = rw e (sym (unknown_length ks sq)) in
      u.is ∙ ap (first_words 8 (length fs)) (ext_get_or 0 u.bits (unknown_bits ks sq) bits_length (λ k l. u.front.done k (omega (arith, bits_length))))

  module _ (l : i < length sq) where
    -- the bit of a data module is v
    flags_next : (v : ℕ) (fs' : List ℕ) → get_or ks i 0 ≡ 0 → v ≡ get_or sq i 0 / 2 → length fs' ≡ length fs
        → fs' ≡ first_words 8 (length fs) (set u.bits (data_modules (take i ks)) v) → FlagsUpTo ks sq (i + 1) fs'
    flags_next v fs' z e s q =
        let p = data_modules (take i ks) in
        let n = modules_next ks i (omega arith) z in
        let inside : p < length (replicate {A = ℕ} (length (unknown_bits ks sq)) 0) =
        rw length-replicate (omega (arith, unknown_length ks sq, modules_mono ks (i + 1) (length sq) (omega arith), n)) in
        record {
          given = u.given;
          room = rw s u.room;
          bits = set u.bits p v;
          front = rw n (each_next _ p v _ u.bits u.front inside (e ∙ sym (unknown_at ks sq i l u.given.kinds z)));
          is = rw s q;
        }

    -- a module of another kind has no bit
    pub flags_other : get_or ks i 0 ≢ 0 → FlagsUpTo ks sq (i + 1) fs
    flags_other d =
        record { given = u.given; room = u.room; bits = u.bits; front = rw (modules_stay ks i (omega arith) d) u.front; is = u.is }

    -- a known module has none that is set
    pub flags_known : get_or sq i 0 < 2 → FlagsUpTo ks sq (i + 1) fs
    flags_known h = elim (ℕ_discrete (get_or ks i 0) 0) [
      | yes z ↦ flags_next 0 fs z (omega arith) refl (u.is ∙ ap (first_words 8 (length fs)) (sym same))
      | no d ↦ flags_other d
    ]
      where
        same : set u.bits (data_modules (take i ks)) 0 ≡ u.bits
        same = rw (← bits_rest (data_modules (take i ks)) (omega arith)) (set-get_or u.bits (data_modules (take i ks)) 0)

    marked : flagged (data_modules (take i ks)) fs ≡ first_words 8 (length fs) (set u.bits (data_modules (take i ks)) 1)
    marked =
        let p = data_modules (take i ks) in
        ap (flagged p) u.is ∙ sym (words_flagged (length fs) p u.bits (omega (arith, bits_length, u.room)) (bits_rest p (omega arith)))

    -- an unknown data module
    pub flags_marked : get_or ks i 0 ≡ 0 → get_or sq i 0 ≡ 2 → FlagsUpTo ks sq (i + 1) (flagged (data_modules (take i ks)) fs)
    flags_marked z e = flags_next 1 _ z (omega arith) (length-set fs _ _) marked

    -- the flag stays a byte
    pub mark_fits : let p = data_modules (take i ks) in p / 8 < length fs → get_or fs (p / 8) 0 + 128 / 2 ^ (p % 8) < 256
    mark_fits h =
        let p = data_modules (take i ks) in
        rw (sym marked, get_or-set_same fs (p / 8) _ 0 h) at
        (codewords_below (length fs) (set u.bits p 1) (λ k. set_any (λ x. x < 2) u.bits p 1 k (lit< tt) (bits_below k)) (p / 8))

-- the first of some zeros
pub zeros_taken : (n : ℕ) (fs : List ℕ) → ((k : ℕ) → get_or fs k 0 ≡ 0) → (k : ℕ) → get_or (take n fs) k 0 ≡ 0
zeros_taken zero fs h k = refl
zeros_taken (suc n) [] h k = refl
zeros_taken (suc n) (f ∷ fs) h zero = h 0
zeros_taken (suc n) (f ∷ fs) h (suc k) = zeros_taken n fs (λ j. h (suc j)) k

-- a run of known modules
pub flags_run : {ks sq fs : List ℕ} (n i : ℕ) → FlagsUpTo ks sq i fs → i + n ≤ length sq → ((k : ℕ) → i ≤ k → k < i + n → get_or sq k 0 < 2)
    → FlagsUpTo ks sq (i + n) fs
flags_run zero i u l h = rw add-zero u
flags_run (suc n) i u l h =
    rw (add-suc, ← suc-add, ← add-one)
    (flags_run n (i + 1) (flags_known u (omega arith) (h i (omega arith) (omega arith))) (omega arith) (λ k a b. h k (omega arith) (omega arith)))

-- a run of which it is told that it has no unknown module
pub flags_told : {ks sq fs : List ℕ} {from to : ℕ} {unknown : Bool} → FlagsUpTo ks sq from fs → from ≤ to → to ≤ length sq
    → TellsRun unknown sq from to → not unknown ≡ true → FlagsUpTo ks sq to fs
flags_told {from = from} {to = to} u h l told d =
    let e : from + (to - from) ≡ to = omega arith in
    rw e at (flags_run (to - from) from u (omega arith) (λ k a b. told.none (not-true _ d) k a (omega arith)))
