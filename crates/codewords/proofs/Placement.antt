-- Data bits into the data modules of a square and out of them.
use Rattle.general.proofs.Names.{◌≡◌, refl, sym, ap, ap₂, ◌∙◌, List, [], ◌∷◌, ℕ, zero, suc, ◌+◌, ◌<◌, ◌≤◌, le_of_suc-le-suc, add-zero, add-suc, suc-add, arith}
use Rattle.general.proofs.Names.{length, get_or, take, bit_xor, xor_self, xor_zero_r}
use Rattle.general.proofs.Xor.{xor_assoc}
use Rattle.symbol.specs.Layout.{data_modules}
use Rattle.symbol.proofs.DataModules.{module_miss}
use Rattle.codewords.specs.Codewords.{data_bits, placed}

xor_twice : (a b : ℕ) → bit_xor (bit_xor a b) b ≡ a
xor_twice a b = xor_assoc a b b ∙ ap (bit_xor a) (xor_self b) ∙ xor_zero_r a

module _ (m : ℕ → ℕ) where
  -- the data bits of a square begin with those that were placed
  pub data_placed : (i : ℕ) (ks ds : List ℕ) → length ds ≤ data_modules ks → take (length ds) (data_bits m i ks (placed m i ks ds)) ≡ ds
  unfolding data_modules data_bits placed
  data_placed i [] [] h = refl
  data_placed i [] (d ∷ ds) h = absurd (omega arith)
  data_placed i (zero ∷ ks) [] h = refl
  data_placed i (zero ∷ ks) (d ∷ ds) h = ap₂ ◌∷◌ (xor_twice d (m i)) (data_placed (suc i) ks ds (le_of_suc-le-suc h))
  data_placed i (suc zero ∷ ks) ds h = data_placed (suc i) ks ds h
  data_placed i (suc (suc zero) ∷ ks) ds h = data_placed (suc i) ks ds h
  data_placed i (suc (suc (suc k)) ∷ ks) ds h = data_placed (suc i) ks ds (rw (module_miss (suc (suc (suc k))) ks (λ z. omega arith)) at h)

  pub length_placed : (i : ℕ) (ks ds : List ℕ) → length (placed m i ks ds) ≡ length ks
  unfolding placed
  length_placed i [] ds = refl
  length_placed i (zero ∷ ks) [] = ap suc (length_placed (suc i) ks [])
  length_placed i (zero ∷ ks) (d ∷ ds) = ap suc (length_placed (suc i) ks ds)
  length_placed i (suc zero ∷ ks) ds = ap suc (length_placed (suc i) ks ds)
  length_placed i (suc (suc zero) ∷ ks) ds = ap suc (length_placed (suc i) ks ds)
  length_placed i (suc (suc (suc k)) ∷ ks) ds = ap suc (length_placed (suc i) ks ds)

  -- a data module behind the last bit is a zero bit under the mask
  pub placed_leftover : (i : ℕ) (ks ds : List ℕ) (p : ℕ) → p < length ks → get_or ks p 0 ≡ 0 → length ds ≤ data_modules (take p ks)
      → get_or (placed m i ks ds) p 0 ≡ m (i + p)
  unfolding placed data_modules
  placed_leftover i [] ds p l z h = absurd (omega arith)
  placed_leftover i (zero ∷ ks) [] zero l z h = rw add-zero
  placed_leftover i (zero ∷ ks) (d ∷ ds) zero l z h = absurd (omega arith)
  placed_leftover i (suc k ∷ ks) ds zero l z h = absurd (omega arith)
  placed_leftover i (zero ∷ ks) [] (suc p) l z h = rw (add-suc, ← suc-add) (placed_leftover (suc i) ks [] p (omega arith) z (omega arith))
  placed_leftover i (zero ∷ ks) (d ∷ ds) (suc p) l z h = rw (add-suc, ← suc-add) (placed_leftover (suc i) ks ds p (omega arith) z (omega arith))
  placed_leftover i (suc zero ∷ ks) ds (suc p) l z h = rw (add-suc, ← suc-add) (placed_leftover (suc i) ks ds p (omega arith) z h)
  placed_leftover i (suc (suc zero) ∷ ks) ds (suc p) l z h = rw (add-suc, ← suc-add) (placed_leftover (suc i) ks ds p (omega arith) z h)
  placed_leftover i (suc (suc (suc k)) ∷ ks) ds (suc p) l z h =
      rw (add-suc, ← suc-add) (placed_leftover (suc i) ks ds p (omega arith) z (rw (module_miss (suc (suc (suc k))) (take p ks) (λ z. omega arith)) at h))

  -- squares that agree on the first n data modules have the same first n data bits
  pub data_agree : (n i : ℕ) (ks a b : List ℕ) → length a ≡ length b
      → ((p : ℕ) → p < length ks → get_or ks p 0 ≡ 0 → data_modules (take p ks) < n → get_or a p 0 ≡ get_or b p 0)
      → take n (data_bits m i ks a) ≡ take n (data_bits m i ks b)
  unfolding data_bits data_modules
  data_agree zero i ks a b e h = refl
  data_agree (suc n) i [] a b e h = refl
  data_agree (suc n) i (k ∷ ks) [] [] e h = refl
  data_agree (suc n) i (k ∷ ks) [] (y ∷ b) e h = absurd (omega arith)
  data_agree (suc n) i (k ∷ ks) (x ∷ a) [] e h = absurd (omega arith)
  data_agree (suc n) i (zero ∷ ks) (x ∷ a) (y ∷ b) e h =
      ap₂ ◌∷◌ (ap (λ (z : ℕ). bit_xor z (m i)) (h 0 (omega arith) refl (omega arith)))
      (data_agree n (suc i) ks a b (omega arith) (λ p l z q. h (suc p) (omega arith) z (omega arith)))
  data_agree (suc n) i (suc k ∷ ks) (x ∷ a) (y ∷ b) e h =
      data_agree (suc n) (suc i) ks a b (omega arith)
      (λ p l z q. h (suc p) (omega arith) z (rw (module_miss (suc k) (take p ks) (λ z. omega arith)) q))

  -- as many as data modules among the kinds of the square
  pub length_data : (i : ℕ) (ks sq : List ℕ) → length (data_bits m i ks sq) ≡ data_modules (take (length sq) ks)
  unfolding data_bits data_modules
  length_data i [] [] = refl
  length_data i [] (b ∷ sq) = refl
  length_data i (k ∷ ks) [] = refl
  length_data i (zero ∷ ks) (b ∷ sq) = ap suc (length_data (suc i) ks sq)
  length_data i (suc k ∷ ks) (b ∷ sq) = length_data (suc i) ks sq ∙ sym (module_miss (suc k) (take (length sq) ks) (λ z. omega arith))

  -- kinds beyond the square do not matter
  pub data_front : (i : ℕ) (ks sq : List ℕ) → data_bits m i ks sq ≡ data_bits m i (take (length sq) ks) sq
  unfolding data_bits
  data_front i [] [] = refl
  data_front i [] (b ∷ sq) = refl
  data_front i (k ∷ ks) [] = refl
  data_front i (zero ∷ ks) (b ∷ sq) = ap (λ (r : List ℕ). bit_xor b (m i) ∷ r) (data_front (suc i) ks sq)
  data_front i (suc k ∷ ks) (b ∷ sq) = data_front (suc i) ks sq

  -- the bit of a data module is the one with as many before it as data modules before that
  pub data_at : (i : ℕ) (ks sq : List ℕ) (p : ℕ) → p < length ks → p < length sq → get_or ks p 0 ≡ 0
      → get_or (data_bits m i ks sq) (data_modules (take p ks)) 0 ≡ bit_xor (get_or sq p 0) (m (i + p))
  unfolding data_bits data_modules
  data_at i [] sq p l h z = absurd (omega arith)
  data_at i (k ∷ ks) [] p l h z = absurd (omega arith)
  data_at i (zero ∷ ks) (b ∷ sq) zero l h z = rw add-zero
  data_at i (suc k ∷ ks) (b ∷ sq) zero l h z = absurd (omega arith)
  data_at i (zero ∷ ks) (b ∷ sq) (suc p) l h z = rw (add-suc, ← suc-add) (data_at (suc i) ks sq p (omega arith) (omega arith) z)
  data_at i (suc k ∷ ks) (b ∷ sq) (suc p) l h z =
      rw (module_miss (suc k) (take p ks) (λ z. omega arith), add-suc, ← suc-add) (data_at (suc i) ks sq p (omega arith) (omega arith) z)

  -- and each bit is that of a data module
  pub data_from : (i : ℕ) (ks sq : List ℕ) (n : ℕ) → n < length (data_bits m i ks sq)
      → (p : ℕ) × (p < length ks) × (p < length sq) × (get_or ks p 0 ≡ 0) × (data_modules (take p ks) ≡ n)
  unfolding data_bits data_modules
  data_from i [] sq n h = absurd (omega arith)
  data_from i (k ∷ ks) [] n h = absurd (omega arith)
  data_from i (zero ∷ ks) (b ∷ sq) zero h = (0, omega arith, omega arith, refl, refl)
  data_from i (zero ∷ ks) (b ∷ sq) (suc n) h =
      let x = data_from (suc i) ks sq n (omega arith) in (suc x.0, omega arith, omega arith, x.3, ap suc x.4)
  data_from i (suc k ∷ ks) (b ∷ sq) n h =
      let x = data_from (suc i) ks sq n h in
      (suc x.0, omega arith, omega arith, x.3, module_miss (suc k) (take x.0 ks) (λ z. omega arith) ∙ x.4)
