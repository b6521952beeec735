-- A locator with the erased places as further roots, and the modified syndromes, one step after the other. Assumes nothing.
use Rattle.general.proofs.Names.{◌≡◌, sym, ap, ap₂, ◌∙◌, subst, subst₂, fun_ext, ◌≢◌, List, ℕ, zero, suc, ◌+◌, ◌-◌, ◌%◌, ◌≤◌, ◌<◌, arith, add-one}
use Rattle.general.proofs.Names.{ℕ_discrete, dec_lt, length, set, replicate, length-set, length-replicate, get_or-set_same, get_or-set_other, xor_self, xor_zero_r}
use Rattle.field.specs.Field.{power, mul}
use Rattle.field.proofs.Field.{Primitive, mul_lt, mul_comm, sum_lt}
use Rattle.field.proofs.Entries.{mul_left_zero, mul_right_zero}
use Rattle.general.proofs.Each.{Above, above_next}
use Rattle.reed_solomon.specs.Sum.{◌⊕◌, seq, horner, degree, locator}
use Rattle.reed_solomon.specs.Register.{discrepancy, Tail}
use Rattle.reed_solomon.specs.Inner.{zeros_of, Shortest}
use Rattle.reed_solomon.proofs.Peel.{null_div, places_apart}
use Rattle.reed_solomon.proofs.Horner.{rooted, rooted_law}
use Rattle.reed_solomon.proofs.Search.{Bytes}
use Rattle.reed_solomon.proofs.Massey.{zeros, one_first}
use Rattle.reed_solomon.proofs.Distance.{zeros_more, zeros_same, zeros_gap}
use Rattle.reed_solomon.specs.Erased.{erasures}
use Rattle.reed_solomon.proofs.Erased.{erasures_zeros}
use Rattle.erasures.specs.Inner.{Times, TimesIf, value_at, Rooted, Modified, Reduction}

-- ---- one factor

-- a coefficient with the one before it times a
abbrev pub rooted_at : ℕ → ℕ → List ℕ → ℕ → ℕ → ℕ
rooted_at poly a f zero x = x
rooted_at poly a f (suc i) x = x ⊕ mul poly (seq f i) a

module _ (poly a l : ℕ) (f : List ℕ) where
  pub adding_next : (i p : ℕ) (f' : List ℕ) → Above (rooted_at poly a f) i (l + 2) f f' → 1 < i → i ≤ l + 2 → l + 2 ≤ length f
      → p ≡ mul poly (seq f' (i - 1 - 1)) a → Above (rooted_at poly a f) (i - 1) (l + 2) f (set f' (i - 1) (seq f' (i - 1) ⊕ p))
  adding_next i p f' A h o b e =
      above_next (rooted_at poly a f) (l + 2) f i (seq f' (i - 1) ⊕ p) f' A (omega arith) o b
      (ap (λ (x : ℕ). seq f' (i - 1) ⊕ x) (e ∙ ap (λ (x : ℕ). mul poly x a) (A.below (i - 1 - 1) (omega arith))) ∙ before (seq f' (i - 1)))
    where
      before : (x : ℕ) → x ⊕ mul poly (seq f (i - 1 - 1)) a ≡ rooted_at poly a f (i - 1) x
      before x = let q : i - 1 ≡ suc (i - 1 - 1) = omega arith in sym (ap (λ (k : ℕ). rooted_at poly a f k x) q)

  pub times_end : (i : ℕ) (f' : List ℕ) → Above (rooted_at poly a f) i (l + 2) f f' → i ≤ 1 → 1 ≤ i → Tail (seq f) l → Times poly a f f'
  unfolding Tail
  times_end i f' A h o t = record {
    size = A.size;
    lead = A.below 0 (omega arith);
    next = λ k. elim (dec_lt k (l + 1)) [
      | yes b ↦ A.done (suc k) (omega arith) (omega arith)
      | no b ↦ A.rest (suc k) (omega arith) ∙ sym (ap (λ (x : ℕ). seq f (suc k) ⊕ mul poly x a) (t k (omega arith))
          ∙ ap (λ (x : ℕ). seq f (suc k) ⊕ x) (mul_left_zero poly a) ∙ xor_zero_r (seq f (suc k)))
    ];
  }

times_rooted : (poly : ℕ) → Primitive poly → (a : ℕ) (f f' : List ℕ) → Times poly a f f' → seq f' ≡ rooted poly a (seq f)
unfolding rooted
times_rooted poly P a f f' T = fun_ext at
  where
    at : (i : ℕ) → seq f' i ≡ rooted poly a (seq f) i
    at zero = T.lead
    at (suc i) = T.next i ∙ ap (λ (x : ℕ). seq f (suc i) ⊕ x) (mul_comm poly P (seq f i) a)

-- ---- all of them

module _ (poly : ℕ) (P : Primitive poly) (n : ℕ) (small : n ≤ 255) (flags : List ℕ) (l : ℕ) (f : List ℕ) where
  abbrev X : ℕ → ℕ
  X = locator poly n

  pub rooted_start : length f ≡ 256 → Bytes f → seq f 0 ≡ 1 → Tail (seq f) l → Rooted poly n flags 0 l f l f
  unfolding zeros_of
  rooted_start h b u t = record {
    size = h;
    bytes = b;
    unit = u;
    count = omega arith;
    tail = t;
    erased = λ i o d. absurd (omega arith);
    zero = λ i e. e;
    back = λ i o e z. z;
  }

  module _ (k l₁ : ℕ) (f₁ : List ℕ) (o : k < n) (R : Rooted poly n flags k l f l₁ f₁) where
    kept_next : seq flags k ≡ 0 → Rooted poly n flags (k + 1) l f l₁ f₁
    kept_next e = record {
      size = R.size;
      bytes = R.bytes;
      unit = R.unit;
      count = omega (arith, R.count, zeros_more (seq flags) k e);
      tail = R.tail;
      erased = λ i h d. elim (ℕ_discrete i k) [ yes q ↦ absurd (d (ap (seq flags) q ∙ e)) | no q ↦ R.erased i (omega arith) d ];
      zero = R.zero;
      back = R.back;
    }

    module _ (f₂ : List ℕ) (T : Times poly (X k) f₁ f₂) (d : seq flags k ≢ 0) where
      -- the value with one factor more
      value : (i : ℕ) → value_at poly n f₂ (l₁ + 1) i ≡ mul poly (X i ⊕ X k) (value_at poly n f₁ l₁ i)
      value i =
          ap₂ (λ (g : ℕ → ℕ) (m : ℕ). horner poly g (X i) (suc m)) (times_rooted poly P (X k) f₁ f₂ T) (add-one l₁)
          ∙ rooted_law poly P (seq f₁) (X k) (X i) l₁ R.tail

      bytes_next : (i : ℕ) → seq f₂ i < 256
      bytes_next zero = omega (arith, T.lead, R.bytes 0)
      bytes_next (suc i) =
          omega (arith, T.next i, sum_lt (seq f₁ (suc i)) (mul poly (seq f₁ i) (X k)) (R.bytes (suc i)) (mul_lt poly P (seq f₁ i) (X k)))

      tail_next : Tail (seq f₂) (l₁ + 1)
      unfolding Tail
      tail_next zero h = absurd (omega arith)
      tail_next (suc i) h =
          T.next i ∙ ap₂ (λ (x y : ℕ). x ⊕ mul poly y (X k)) (R.tail (suc i) (omega arith)) (R.tail i (omega arith)) ∙ mul_left_zero poly (X k)

      erased_next : Rooted poly n flags (k + 1) l f (l₁ + 1) f₂
      erased_next = record {
        size = T.size ∙ R.size;
        bytes = bytes_next;
        unit = T.lead ∙ R.unit;
        count = omega (arith, R.count, zeros_same (seq flags) k d);
        tail = tail_next;
        erased = λ i h e. elim (ℕ_discrete i k) [
          | yes q ↦ value i ∙ ap (λ (j : ℕ). mul poly (X j ⊕ X k) (value_at poly n f₁ l₁ i)) q
              ∙ ap (λ (x : ℕ). mul poly x (value_at poly n f₁ l₁ i)) (xor_self (X k)) ∙ mul_left_zero poly (value_at poly n f₁ l₁ i)
          | no q ↦ value i ∙ ap (mul poly (X i ⊕ X k)) (R.erased i (omega arith) e) ∙ mul_right_zero poly (X i ⊕ X k)
        ];
        zero = λ i e. value i ∙ ap (mul poly (X i ⊕ X k)) (R.zero i e) ∙ mul_right_zero poly (X i ⊕ X k);
        back = λ i h e z. R.back i h e (null_div poly P (value_at poly n f₁ l₁ i) (X i ⊕ X k)
            (ap (λ (x : ℕ). x % 256) (mul_comm poly P (value_at poly n f₁ l₁ i) (X i ⊕ X k) ∙ sym (value i)) ∙ z)
            (places_apart poly P 0 n small i k h o (λ q. d (ap (seq flags) (sym q) ∙ e))));
      }

    pub rooted_next : (l₂ flag d : ℕ) (f₂ : List ℕ) → flag ≡ seq flags k → d ≡ n - 1 - k → TimesIf poly (power poly d) flag l₁ f₁ l₂ f₂
        → Rooted poly n flags (k + 1) l f l₂ f₂
    unfolding degree
    rooted_next l₂ flag d f₂ e r T =
        let q : d ≡ n - suc k = omega arith in
        elim (ℕ_discrete (seq flags k) 0) [
          | yes z ↦
              let u = T.kept (e ∙ z) in
              subst₂ (λ (m : ℕ) (g : List ℕ). Rooted poly n flags (k + 1) l f m g) (sym u.0) (sym u.1) (kept_next z)
          | no z ↦
              let u = T.erased (omega arith) in
              subst (λ (m : ℕ). Rooted poly n flags (k + 1) l f m f₂) (sym u.0)
              (erased_next f₂ (subst (λ (x : ℕ). Times poly (power poly x) f₁ f₂) q u.1) z)
        ]

  pub rooted_end : (k m l₁ : ℕ) (f₁ : List ℕ) → Rooted poly n flags k l f l₁ f₁ → k ≤ m → m ≤ k → Rooted poly n flags m l f l₁ f₁
  rooted_end k m l₁ f₁ R a b = let e : k ≡ m = omega arith in subst (λ (x : ℕ). Rooted poly n flags x l f l₁ f₁) e R

-- the length stays within bounds
pub rooted_room : {poly : ℕ} {flags : List ℕ} {k l l₁ : ℕ} {f f₁ : List ℕ} → Rooted poly (length flags) flags k l f l₁ f₁ → k < length flags
    → l + erasures flags ≤ 255 → (l₁ ≤ 255) × (0 < seq flags k → l₁ ≤ 254)
rooted_room {poly} {flags} {k} R h o =
    let n = length flags in
    let all = erasures_zeros flags in
    let a : k + (n - k) ≡ n = omega arith in
    let b : k + 1 + (n - (k + 1)) ≡ n = omega arith in (
      omega (arith, R.count, all, zeros_gap (seq flags) k (n - k), ap (λ (m : ℕ). zeros_of m (seq flags)) a),
      λ d. omega (
        arith,
        R.count,
        all,
        zeros_gap (seq flags) (k + 1) (n - (k + 1)),
        ap (λ (m : ℕ). zeros_of m (seq flags)) b,
        zeros_same (seq flags) k (λ z. omega arith),
      ),
    )

-- ---- the modified syndromes

module _ (poly : ℕ) (s g : List ℕ) (f : ℕ) where
  pub modified_start : (t : List ℕ) → length t ≡ 256 → Bytes t → Modified poly s g f 0 t
  modified_start t e b = record { size = e; bytes = b; are = λ j h. absurd (omega arith) }

  pub modified_next : (j d : ℕ) (t : List ℕ) → Modified poly s g f j t → d ≡ discrepancy poly (seq s) (seq g) f (f + j) → d < 256 → j < 256
      → Modified poly s g f (j + 1) (set t j d)
  modified_next j d t M e b h = record {
    size = length-set t j d ∙ M.size;
    bytes = λ i. elim (ℕ_discrete i j) [
      | yes q ↦ omega (arith, ap (seq (set t j d)) q, get_or-set_same t j d 0 (omega (arith, M.size)))
      | no q ↦ omega (arith, get_or-set_other t j i d 0 q, M.bytes i)
    ];
    are = λ i o. elim (ℕ_discrete i j) [
      | yes q ↦ ap (seq (set t j d)) q ∙ get_or-set_same t j d 0 (omega (arith, M.size)) ∙ e ∙ ap (λ (x : ℕ). discrepancy poly (seq s) (seq g) f (f + x)) (sym q)
      | no q ↦ get_or-set_other t j i d 0 q ∙ M.are i (omega arith)
    ];
  }

  pub modified_end : (j m : ℕ) (t : List ℕ) → Modified poly s g f j t → j ≤ m → m ≤ j → Modified poly s g f m t
  modified_end j m t M a b = let e : j ≡ m = omega arith in subst (λ (x : ℕ). Modified poly s g f x t) e M

-- ---- from 1 to the locator of what is left

pub one_size : length {A = ℕ} (set (replicate 256 0) 0 1) ≡ 256
one_size = length-set {A = ℕ} (replicate 256 0) 0 1 ∙ length-replicate {A = ℕ} 256 0

pub one_unit : seq (set (replicate 256 0) 0 1) 0 ≡ 1
one_unit = get_or-set_same (replicate 256 0) 0 1 0 (omega (arith, length-replicate {A = ℕ} 256 0))

pub one_tail : Tail (seq (set (replicate 256 0) 0 1)) 0
unfolding Tail
one_tail i h = one_first (replicate 256 0) (length-replicate {A = ℕ} 256 0) (zeros 256) i h

pub reduction_of : (poly parity : ℕ) (flags s : List ℕ) (f r : ℕ) (one g t p : List ℕ) (l : ℕ) → seq one 0 ≡ 1 → f ≡ erasures flags
    → Rooted poly (length flags) flags (length flags) 0 one r g → Modified poly s g f (parity - f) t → Shortest poly t (parity - f) p l
    → Reduction poly parity flags s f p l
reduction_of poly parity flags s f r one g t p l u e G M F =
    let q : r ≡ f = omega (arith, G.count, erasures_zeros flags) in
    record { one = one; unit = u; g = g; rooted = subst (λ (x : ℕ). Rooted poly (length flags) flags (length flags) 0 one x g) q G; t = t; modified = M; shortest = F }
