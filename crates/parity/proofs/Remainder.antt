-- Polynomials as sequences: the generator, division by it, and the codeword that the rest makes. Assumes nothing.
use Rattle.general.proofs.Names.{◌≡◌, refl, sym, ap, ◌∙◌, fun_ext, List, if_pos, if_neg, ℕ, zero, suc, ◌+◌, ◌-◌, ◌%◌, ◌≤◌, ◌<◌, arith, add-one}
use Rattle.general.proofs.Names.{add-zero, add-suc, ℕ_discrete, dec_lt, xor_self, xor_zero_l, xor_zero_r}
use Rattle.field.specs.Field.{power, mul}
use Rattle.field.proofs.Xor.{xor_swap}
use Rattle.field.proofs.Field.{Primitive, mul_lt, mul_assoc, mul_one, sum_lt}
use Rattle.field.proofs.Field.{mul_sum as sum-mul}
use Rattle.field.proofs.Entries.{mul_left_zero, mul_right_zero}
use Rattle.reed_solomon.specs.Sum.{◌⊕◌, seq, horner}
use Rattle.reed_solomon.specs.Register.{Tail, moved, stepped}
use Rattle.reed_solomon.proofs.Sum.{mul_add}
use Rattle.reed_solomon.proofs.Register.{moved_low, moved_high, stepped_low, stepped_high, stepped_tail}
use Rattle.reed_solomon.proofs.Horner.{rooted, rooted_law, horner_ext}
use Rattle.reed_solomon.specs.Inner.{added}
use Rattle.general.specs.Each.{Each}
use Rattle.general.proofs.Each.{each_same}
use Rattle.parity.specs.Inner.{Monic, Generator, Divided, copied_from}

-- ---- arrays

-- an array to which q times g moved up by m places is added holds the whole sum where g ends before top
pub whole : (poly q m l top : ℕ) (f f' g : List ℕ) → Each (added poly q m g) top f f' → Tail (seq g) l → l + m < top
    → seq f' ≡ stepped poly q m (seq f) (seq g)
unfolding Tail stepped
whole poly q m l top f f' g E t h = fun_ext (λ i. elim (dec_lt i top) [
  | yes u ↦ E.done i u
  | no u ↦ E.rest i (omega arith)
      ∙ sym (stepped_high poly q m (seq f) (seq g) i (omega arith) ∙ rw (t (i - m) (omega arith), mul_right_zero, xor_zero_r))
])

-- ---- values

module _ (poly x : ℕ) where
  horner_zeros : (f : ℕ → ℕ) (n : ℕ) → ((i : ℕ) → i < n → f i ≡ 0) → horner poly f x n ≡ 0
  unfolding horner
  horner_zeros f zero z = refl
  horner_zeros f (suc n) z = rw (horner_zeros f n (λ i h. z i (omega arith)), z n (omega arith), mul_left_zero)

  -- zeros in front
  horner_moved : (g : ℕ → ℕ) (m r : ℕ) → horner poly (moved m g) x (m + r) ≡ horner poly g x r
  unfolding horner
  horner_moved g m zero = rw add-zero (horner_zeros (moved m g) m (moved_low m g))
  horner_moved g m (suc r) = let e : m + r - m ≡ r = omega arith in rw (add-suc, horner_moved g m r, moved_high m g (m + r) (omega arith), e)

  -- zeros behind
  module _ (g : ℕ → ℕ) (d : ℕ) (t : Tail g d) (z : horner poly g x (suc d) ≡ 0) where
    horner_behind : (s : ℕ) → horner poly g x (suc d + s) ≡ 0
    unfolding horner Tail
    horner_behind zero = rw add-zero z
    horner_behind (suc s) = rw (add-suc, horner_behind s, t (suc d + s) (omega arith), mul_left_zero)

    moved_root : (m n : ℕ) → m + suc d ≤ n → horner poly (moved m g) x n ≡ 0
    moved_root m n h =
        let e : n ≡ m + (suc d + (n - (m + suc d))) = omega arith in
        ap (horner poly (moved m g) x) e ∙ horner_moved g m (suc d + (n - (m + suc d))) ∙ horner_behind (n - (m + suc d))

  module _ (P : Primitive poly) where
    horner_stepped : (q m : ℕ) (f g : ℕ → ℕ) (n : ℕ) → horner poly (stepped poly q m f g) x n ≡ horner poly f x n ⊕ mul poly q (horner poly (moved m g) x n)
    unfolding horner stepped
    horner_stepped q m f g zero = sym (mul_right_zero poly q)
    horner_stepped q m f g (suc n) =
        let F = horner poly f x n in
        let G = horner poly (moved m g) x n in
        rw (horner_stepped q m f g n, sum-mul poly P F (mul poly q G) x, mul_assoc poly P q G x, mul_add poly P q (mul poly G x) (moved m g n))
        (xor_swap (mul poly F x) (mul poly q (mul poly G x)) (f n) (mul poly q (moved m g n)))

    horner_add : (f g : ℕ → ℕ) (n : ℕ) → horner poly (λ i. f i ⊕ g i) x n ≡ horner poly f x n ⊕ horner poly g x n
    unfolding horner
    horner_add f g zero = refl
    horner_add f g (suc n) =
        rw (horner_add f g n, sum-mul poly P (horner poly f x n) (horner poly g x n) x)
        (xor_swap (mul poly (horner poly f x n) x) (mul poly (horner poly g x n) x) (f n) (g n))

-- ---- the generator

pub generator_start : (poly first : ℕ) (g : ℕ → ℕ) → g 0 ≡ 1 → ((i : ℕ) → 0 < i → g i ≡ 0) → Generator poly first 0 g
unfolding Tail
generator_start poly first g u z = record { monic = record { unit = u; tail = λ i h. z i h }; roots = λ j h. absurd (omega arith) }

rooted_stepped : (poly a : ℕ) (f : ℕ → ℕ) (i : ℕ) → stepped poly a 1 f f i ≡ rooted poly a f i
unfolding rooted
rooted_stepped poly a f zero = stepped_low poly a 1 f f 0 (omega arith)
rooted_stepped poly a f (suc i) = let e : suc i - 1 ≡ i = omega arith in stepped_high poly a 1 f f (suc i) (omega arith) ∙ rw e

-- times x + α^(first + n)
pub generator_next : (poly : ℕ) → Primitive poly → (first n : ℕ) (g : ℕ → ℕ) → Generator poly first n g
    → Generator poly first (n + 1) (stepped poly (power poly (first + n)) 1 g g)
generator_next poly P first n g G = record {
  monic = record {
    unit = stepped_low poly a 1 g g 0 (omega arith) ∙ G.monic.unit;
    tail = stepped_tail poly a g g n n 1 (n + 1) G.monic.tail G.monic.tail (omega arith) (omega arith);
  };
  roots = λ j h.
      ap (λ (k : ℕ). horner poly (stepped poly a 1 g g) (power poly (first + j)) (suc k)) (add-one n)
      ∙ horner_ext poly (stepped poly a 1 g g) (rooted poly a g) (power poly (first + j)) (suc (suc n)) (λ i l. rooted_stepped poly a g i)
      ∙ rooted_law poly P g a (power poly (first + j)) n G.monic.tail ∙ none j h;
}
  where
    a : ℕ
    a = power poly (first + n)

    none : (j : ℕ) → j < n + 1 → mul poly (power poly (first + j) ⊕ a) (horner poly g (power poly (first + j)) (suc n)) ≡ 0
    none j h = elim (ℕ_discrete j n) [
      | yes e ↦ rw (e, xor_self) (mul_left_zero poly (horner poly g a (suc n)))
      | no d ↦ rw (G.roots j (omega arith)) (mul_right_zero poly (power poly (first + j) ⊕ a))
    ]

-- the same on arrays
pub multiplied : (poly : ℕ) → Primitive poly → (first n a : ℕ) (g g' : List ℕ) → Generator poly first n (seq g) → a ≡ power poly (first + n)
    → Each (added poly a 1 g) (n + 2) g g' → Generator poly first (n + 1) (seq g')
multiplied poly P first n a g g' G e E =
    rw (whole poly a 1 n (n + 2) g g' g E G.monic.tail (omega arith), e) (generator_next poly P first n (seq g) G)

pub generator_end : (poly first n m : ℕ) (g : ℕ → ℕ) → Generator poly first n g → n ≤ m → m ≤ n → Generator poly first m g
generator_end poly first n m g G h k = let e : n ≡ m = omega arith in rw e at G

pub generator_monic : (poly first n m : ℕ) (g : ℕ → ℕ) → Generator poly first n g → n ≤ m → m ≤ n → Monic m g
generator_monic poly first n m g G h k = (generator_end poly first n m g G h k).monic

-- ---- division

module _ (poly : ℕ) (P : Primitive poly) (d : ℕ) (g : ℕ → ℕ) (M : Monic d g) (n : ℕ) (w : ℕ → ℕ) where
  pub divided_start : ((i : ℕ) → w i < 256) → Divided poly d g n 0 w w
  divided_start b = record { bytes = b; front = λ j h. absurd (omega arith); same = λ x z. refl }

  pub divided_next : (i : ℕ) (w' : ℕ → ℕ) → Divided poly d g n i w w' → i + suc d ≤ n → Divided poly d g n (i + 1) w (stepped poly (w' i) i w' g)
  unfolding stepped
  divided_next i w' D h = record {
    bytes = λ j. sum_lt (w' j) (mul poly (w' i) (moved i g j)) (D.bytes j) (mul_lt poly P (w' i) (moved i g j));
    front = λ j l. elim (ℕ_discrete j i) [
      | yes e ↦ ap (stepped poly (w' i) i w' g) e ∙ gone
      | no o ↦ stepped_low poly (w' i) i w' g j (omega arith) ∙ D.front j (omega arith)
    ];
    same = λ x z.
        horner_stepped poly x P (w' i) i w' g n
        ∙ rw (moved_root poly x g d M.tail z i n h, mul_right_zero, xor_zero_r) (D.same x z);
  }
    where
      gone : stepped poly (w' i) i w' g i ≡ 0
      gone =
          let e : i - i ≡ 0 = omega arith in
          let b : w' i % 256 ≡ w' i = omega (arith, D.bytes i) in
          stepped_high poly (w' i) i w' g i (omega arith) ∙ rw (e, M.unit, mul_one poly P (w' i), b) (xor_self (w' i))

-- the same on arrays
pub reduced : (poly : ℕ) → Primitive poly → (d n i : ℕ) (g w w' w'' : List ℕ) → Monic d (seq g) → Divided poly d (seq g) n i (seq w) (seq w') → i + suc d ≤ n
    → Each (added poly (seq w' i) i g) (i + d + 1) w' w'' → Divided poly d (seq g) n (i + 1) (seq w) (seq w'')
reduced poly P d n i g w w' w'' M D h E =
    rw (whole poly (seq w' i) i d (i + d + 1) w' w'' g E M.tail (omega arith)) (divided_next poly P d (seq g) M n (seq w) i (seq w') D h)

pub divided_end : (poly d : ℕ) (g : ℕ → ℕ) (n i k : ℕ) (w w' : ℕ → ℕ) → Divided poly d g n i w w' → i ≤ k → k ≤ i → Divided poly d g n k w w'
divided_end poly d g n i k w w' D h l = let e : i ≡ k = omega arith in rw e at D

-- data w with zeros behind them, and the rest w' of their division: data followed by the rest are zero wherever g is
pub joined_root : (poly : ℕ) → Primitive poly → (d : ℕ) (g : ℕ → ℕ) (n k : ℕ) (w w' b : ℕ → ℕ) → Divided poly d g n k w w'
    → ((i : ℕ) → k ≤ i → w i ≡ 0) → ((i : ℕ) → i < k → b i ≡ w i) → ((i : ℕ) → k ≤ i → i < n → b i ≡ w' i)
    → (x : ℕ) → horner poly g x (suc d) ≡ 0 → horner poly b x n ≡ 0
joined_root poly P d g n k w w' b D z front back x r =
    horner_ext poly b (λ i. w i ⊕ w' i) x n
    (λ i h. elim (dec_lt i k) [
      | yes l ↦ front i l ∙ rw (D.front i l, xor_zero_r)
      | no l ↦ back i (omega arith) h ∙ rw (z i (omega arith), xor_zero_l)
    ])
    ∙ horner_add poly x P w w' n ∙ rw (D.same x r) (xor_self (horner poly w x n))

-- ---- copying from a place on

module _ (k : ℕ) (src : List ℕ) where
  pub copied_low : (i x : ℕ) → i < k → copied_from k src i x ≡ x
  unfolding copied_from
  copied_low i x h = if_pos (dec_lt i k) h x (seq src i)

  pub copied_high : (i x : ℕ) → k ≤ i → copied_from k src i x ≡ seq src i
  unfolding copied_from
  copied_high i x h = if_neg (dec_lt i k) (omega arith) x (seq src i)

  pub copying_start : (s : List ℕ) → Each (copied_from k src) k s s
  copying_start s = each_same (copied_from k src) k s (λ i h. sym (copied_low i (seq s i) h))
