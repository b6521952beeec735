-- A copy that was written is read; and the distance of two readings is the number of places that differ.
use Rattle.general.proofs.Names.{◌≡◌, refl, sym, ap, ap₂, ◌∙◌, Bool, true, false, cond, List, ℕ, zero, suc, ◌+◌, ◌*◌, ◌/◌, ◌%◌, ◌^◌, ◌<◌, ◌≤◌, not-suc-le-zero}
use Rattle.general.proofs.Names.{le_of_suc-le-suc, arith, ℕ_discrete, eqb, bit_xor, differ, xor_step, length, get_or, set, length-set, get_or-set_same}
use Rattle.general.proofs.Names.{get_or-set_other}
use lib.Count.{ones, ones_step}
use Rattle.bits.specs.Bits.{low_bits, value, store_at}
use Rattle.bits.proofs.Words.{low_back}
use Rattle.symbol.proofs.KindsLow.{set_any}
use Rattle.information.specs.Information.{info_position, positions, copy_of}
use Rattle.information.specs.Inner.{module_of, number_from, bit_of, stored, bits_written, copy_written}
use Rattle.information.proofs.Distinct.{place_lt, place_same, place_other}
use Rattle.general.specs.Lists.{each}

-- what a copy says, and what is written into one, turn by turn
pub copy_is : (s : ℕ) (b : Bool) (g : List ℕ) → copy_of s b g ≡ number_from (module_of s b g) 34
unfolding copy_of positions each value number_from
copy_is s b g = refl

pub copy_written_lem : (s : ℕ) (b : Bool) (w : ℕ) (g : List ℕ) → copy_written s b w g ≡ bits_written s b w 34 g
unfolding positions each low_bits store_at stored bit_of
copy_written_lem s b w g = refl

pub number_same : (f h : ℕ → ℕ) (n : ℕ) → ((k : ℕ) → k < n → f k ≡ h k) → number_from f n ≡ number_from h n
unfolding number_from
number_same f h zero e = refl
number_same f h (suc n) e = ap₂ (λ (x y : ℕ). x * 2 + y) (number_same f h n (λ k l. e k (omega arith))) (e n (omega arith))

number_bits : (w : ℕ) → w < 2 ^ 34 → number_from (bit_of w) 34 ≡ w
unfolding number_from bit_of low_bits value
number_bits w h = low_back 34 w h

-- elements stored at places
module _ (place x : ℕ → ℕ) (g : List ℕ) where
  pub stored_length : (n : ℕ) → length (stored place x n g) ≡ length g
  unfolding stored
  stored_length zero = refl
  stored_length (suc n) = length-set (stored place x n g) (place n) (x n) ∙ stored_length n

  pub stored_else : (n p : ℕ) → ((k : ℕ) → k < n → p ≡ place k → ⊥) → get_or (stored place x n g) p 0 ≡ get_or g p 0
  unfolding stored
  stored_else zero p ne = refl
  stored_else (suc n) p ne = get_or-set_other (stored place x n g) (place n) p (x n) 0 (ne n (omega arith)) ∙ stored_else n p (λ k l. ne k (omega arith))

  stored_at : (n k : ℕ) → ((i j : ℕ) → i < n → j < n → place i ≡ place j → i ≡ j) → k < n → place k < length g → get_or (stored place x n g) (place k) 0 ≡ x k
  unfolding stored
  stored_at zero k d l room = absurd (not-suc-le-zero l)
  stored_at (suc n) k d l room = elim (ℕ_discrete k n) [
    | yes e ↦ ap (λ (j : ℕ). get_or (set (stored place x n g) (place n) (x n)) (place j) 0) e
        ∙ get_or-set_same (stored place x n g) (place n) (x n) 0 (omega (arith, stored_length n, ap place e)) ∙ ap x (sym e)
    | no e ↦ get_or-set_other (stored place x n g) (place n) (place k) (x n) 0 (λ q. e (d k n l (omega arith) q))
        ∙ stored_at n k (λ i j a b. d i j (omega arith) (omega arith)) (omega arith) room
  ]

  pub stored_any : (P : ℕ → Type 0) → ((k : ℕ) → P (x k)) → ((i : ℕ) → P (get_or g i 0)) → (n i : ℕ) → P (get_or (stored place x n g) i 0)
  unfolding stored
  stored_any P a h zero i = h i
  stored_any P a h (suc n) i = set_any P (stored place x n g) (place n) (x n) i (a n) (stored_any P a h n i)

-- a copy that is written
module _ (s : ℕ) (b : Bool) (w : ℕ) (g : List ℕ) where
  pub copy_length : length (copy_written s b w g) ≡ length g
  copy_length = rw copy_written_lem (stored_length (info_position s b) (bit_of w) g 34)

  pub copy_else : (p : ℕ) → ((k : ℕ) → k < 34 → p ≡ info_position s b k → ⊥) → get_or (copy_written s b w g) p 0 ≡ get_or g p 0
  copy_else = rw copy_written_lem (stored_else (info_position s b) (bit_of w) g 34)

  pub copy_bits : ((i : ℕ) → get_or g i 0 < 2) → (i : ℕ) → get_or (copy_written s b w g) i 0 < 2
  unfolding bit_of
  copy_bits h = rw copy_written_lem (stored_any (info_position s b) (bit_of w) g (λ y. y < 2) (λ k. omega arith) h 34)

  -- it is read as it was written
  pub round : 23 ≤ s → s * s ≤ length g → w < 2 ^ 34 → copy_of s b (copy_written s b w g) ≡ w
  round big room h =
      copy_is s b (copy_written s b w g)
      ∙ number_same (module_of s b (copy_written s b w g)) (bit_of w) 34
      (λ k l. rw copy_written_lem (stored_at (info_position s b) (bit_of w) g 34 k (place_same s big b) l (omega (arith, place_lt s big b k l))))
      ∙ number_bits w h

-- the second copy leaves the first
pub round_first : (s : ℕ) (big : 23 ≤ s) (w u : ℕ) (g : List ℕ) → s * s ≤ length g → w < 2 ^ 34
    → copy_of s false (copy_written s true u (copy_written s false w g)) ≡ w
round_first s big w u g room h =
    let first = copy_written s false w g in
    copy_is s false (copy_written s true u first)
    ∙ number_same (module_of s false (copy_written s true u first)) (module_of s false first) 34
    (λ k l. copy_else s true u first (info_position s false k) (λ m q e. place_other s big k m l q e))
    ∙ sym (copy_is s false first)
    ∙ round s false w g big room h

-- how many of f 0, .. f (n − 1) differ from those of h
unfoldable pub differing : (ℕ → ℕ) → (ℕ → ℕ) → ℕ → ℕ
differing f h zero = 0
differing f h (suc n) = differing f h n + cond (eqb (f n) (h n)) 0 1

differ_bits : (x y : ℕ) → x < 2 → y < 2 → differ x y ≡ cond (eqb x y) 0 1
differ_bits zero zero a b = refl
differ_bits zero (suc zero) a b = refl
differ_bits (suc zero) zero a b = refl
differ_bits (suc zero) (suc zero) a b = refl
differ_bits (suc (suc x)) y a b = absurd (not-suc-le-zero (le_of_suc-le-suc (le_of_suc-le-suc a)))
differ_bits zero (suc (suc y)) a b = absurd (not-suc-le-zero (le_of_suc-le-suc (le_of_suc-le-suc b)))
differ_bits (suc zero) (suc (suc y)) a b = absurd (not-suc-le-zero (le_of_suc-le-suc (le_of_suc-le-suc b)))

one_more : (a b x y : ℕ) → x < 2 → y < 2 → ones (bit_xor (a * 2 + x) (b * 2 + y)) ≡ ones (bit_xor a b) + cond (eqb x y) 0 1
one_more a b x y p q =
    let a1 : (a * 2 + x) / 2 ≡ a = omega arith in
    let a2 : (a * 2 + x) % 2 ≡ x = omega arith in
    let b1 : (b * 2 + y) / 2 ≡ b = omega arith in
    let b2 : (b * 2 + y) % 2 ≡ y = omega arith in
    rw (xor_step (a * 2 + x) (b * 2 + y), a1, a2, b1, b2, differ_bits x y p q) (last (bit_xor a b) (eqb x y))
  where
    last : (n : ℕ) (t : Bool) → ones (n * 2 + cond t 0 1) ≡ ones n + cond t 0 1
    last n true = ones_step (n * 2 + 0) ∙ (let c : (n * 2 + 0) / 2 ≡ n = omega arith in let d : (n * 2 + 0) % 2 ≡ 0 = omega arith in rw (c, d) (omega arith))
    last n false = ones_step (n * 2 + 1) ∙ (let c : (n * 2 + 1) / 2 ≡ n = omega arith in let d : (n * 2 + 1) % 2 ≡ 1 = omega arith in rw (c, d) (omega arith))

-- the differing bits of two readings are the differing places
pub distance_is : (f h : ℕ → ℕ) → ((k : ℕ) → f k < 2) → ((k : ℕ) → h k < 2) → (n : ℕ) → ones (bit_xor (number_from f n) (number_from h n)) ≡ differing f h n
unfolding number_from differing ones
distance_is f h p q zero = refl
distance_is f h p q (suc n) = rw (one_more (number_from f n) (number_from h n) (f n) (h n) (p n) (q n), distance_is f h p q n)
