-- The steps of Berlekamp and Massey's algorithm on arrays. Assumes nothing.
use Rattle.general.proofs.Names.{◌≡◌, refl, sym, ap, ◌∙◌, subst, subst₂, subst₃, fun_ext, List, ℕ, suc, ◌+◌, ◌-◌, ◌≤◌, ◌<◌, arith, add-one, ℕ_discrete}
use Rattle.general.proofs.Names.{dec_lt, length, set, replicate, length-set, length-replicate, get_or-replicate, get_or-eq_default, get_or-set_same}
use Rattle.general.proofs.Names.{get_or-set_other, xor_zero_r}
use Rattle.field.specs.Field.{mul}
use Rattle.field.proofs.Field.{Primitive, mul_lt, sum_lt}
use Rattle.field.proofs.Entries.{mul_right_zero}
use Rattle.reed_solomon.specs.Sum.{◌⊕◌, seq}
use Rattle.reed_solomon.specs.Register.{discrepancy, Generates, Tail, moved, stepped, State}
use Rattle.reed_solomon.proofs.Register.{moved_low, moved_high, stepped_low, stepped_tail, massey, kept, stayed, grown}
use Rattle.reed_solomon.specs.Inner.{added, copied, Register, Shortest}
use Rattle.general.specs.Each.{Each}
use Rattle.general.proofs.Each.{each_same, each_next, Above, above_next, above_end}

-- f plus q times g moved up by m places: below m nothing is added
module _ (poly q m : ℕ) (g : List ℕ) where
  pub adding_start : (f : List ℕ) → Each (added poly q m g) m f f
  adding_start f = each_same (added poly q m g) m f
      (λ i h. sym (ap (λ (y : ℕ). seq f i ⊕ mul poly q y) (moved_low m (seq g) i h) ∙ ap (λ (y : ℕ). seq f i ⊕ y) (mul_right_zero poly q) ∙ xor_zero_r (seq f i)))

  pub adding_next : (i p : ℕ) (f₀ f : List ℕ) → Each (added poly q m g) i f₀ f → i < length f₀ → m ≤ i → p ≡ mul poly q (seq g (i - m))
      → Each (added poly q m g) (i + 1) f₀ (set f i (seq f i ⊕ p))
  adding_next i p f₀ f E h k e =
      each_next (added poly q m g) i (seq f i ⊕ p) f₀ f E h
      (ap (λ (y : ℕ). seq f i ⊕ y) e ∙ sym (ap (λ (y : ℕ). seq f i ⊕ mul poly q y) (moved_high m (seq g) i k)))

-- the same from the top down, and g becomes what f was
module _ (poly q m top : ℕ) (f₀ g₀ : List ℕ) where
  pub record Growing (i : ℕ) (f g : List ℕ) : Type 0 where
    pub more : Above (added poly q m g₀) i top f₀ f
    pub old : Above (copied f₀) i top g₀ g

  pub growing_next : (i p : ℕ) (f g : List ℕ) → Growing i f g → m < i → i ≤ top → top ≤ length f₀ → top ≤ length g₀ → p ≡ mul poly q (seq g (i - 1 - m))
      → Growing (i - 1) (set f (i - 1) (seq f (i - 1) ⊕ p)) (set g (i - 1) (seq f (i - 1)))
  growing_next i p f g G a b hf hg e = record {
    more = above_next (added poly q m g₀) top f₀ i (seq f (i - 1) ⊕ p) f G.more (omega arith) b hf
        (ap (λ (y : ℕ). seq f (i - 1) ⊕ y) (e ∙ ap (mul poly q) (G.old.below (i - 1 - m) (omega arith) ∙ sym (moved_high m (seq g₀) (i - 1) (omega arith)))));
    old = above_next (copied f₀) top g₀ i (seq f (i - 1)) g G.old (omega arith) b hg (G.more.below (i - 1) (omega arith));
  }

  pub growing_end : (i : ℕ) (f g g' : List ℕ) → Growing i f g → i ≡ m → m ≤ top → Each (copied f) m g g'
      → Each (added poly q m g₀) top f₀ f × Each (copied f₀) top g₀ g'
  growing_end i f g g' G e h C = (
    above_end (added poly q m g₀) top f₀ i f G.more (λ k l. (adding_start poly q m g₀ f₀).done k (omega arith)),
    record {
      size = C.size ∙ G.old.size;
      done = λ k l. elim (dec_lt k m) [
        | yes a ↦ C.done k a ∙ G.more.below k (omega arith)
        | no a ↦ C.rest k (omega arith) ∙ G.old.done k (omega arith) l
      ];
      rest = λ k l. C.rest k (omega arith) ∙ G.old.rest k l;
    },
  )

-- ---- what the algorithm keeps

makes_less : (poly : ℕ) (s t : ℕ → ℕ) (r e : ℕ) → Generates poly s (r + 1) t e → Generates poly s r t e
unfolding Generates
makes_less poly s t r e m x a b = m x a (omega arith)

module _ (poly : ℕ) (P : Primitive poly) (s : List ℕ) (r : ℕ) (f g : List ℕ) (l rg b : ℕ) (G : Register poly s r f g l rg b) where
  pub register_kept : discrepancy poly (seq s) (seq f) l r ≡ 0 → Register poly s (r + 1) f g l rg b
  register_kept z = record {
    state = rw add-one (kept poly P (seq s) r l (seq f) rg (rg - l) (seq g) b G.state z);
    unit = G.unit;
    bytes = G.bytes;
    size_f = G.size_f;
    size_g = G.size_g;
    pos = G.pos;
    within = omega (arith, G.within);
    behind = G.behind;
    least = λ t e m o. G.least t e (makes_less poly (seq s) t r e m) o;
  }

  module _ (d q : ℕ) (f' : List ℕ) (top : ℕ) (e : d ≡ discrepancy poly (seq s) (seq f) l r) (p : 0 < d) (d8 : d < 256) (qb : mul poly q b ≡ d)
      (E : Each (added poly q (r + 1 - rg) g) top f f') (a : l < top) (c : rg - l + (r + 1 - rg) < top) where
    front : rg ≤ r
    front = G.state.before

    -- the array holds the whole register
    whole : seq f' ≡ stepped poly q (r + 1 - rg) (seq f) (seq g)
    unfolding Tail stepped
    whole = fun_ext (λ i. elim (dec_lt i top) [
      | yes u ↦ E.done i u
      | no u ↦ E.rest i (omega arith) ∙ G.state.f_tail i (omega arith)
          ∙ sym (stepped_tail poly q (seq f) (seq g) l (rg - l) (r + 1 - rg) (top - 1) G.state.f_tail G.state.g_tail (omega arith) (omega arith) i (omega arith))
    ])

    moved_one : stepped poly q (suc r - rg) (seq f) (seq g) ≡ seq f'
    moved_one = ap (λ (n : ℕ). stepped poly q (n - rg) (seq f) (seq g)) (sym (add-one r)) ∙ sym whole

    unit' : seq f' 0 ≡ 1
    unit' = ap (λ (h : ℕ → ℕ). h 0) whole ∙ stepped_low poly q (r + 1 - rg) (seq f) (seq g) 0 (omega (arith, front)) ∙ G.unit

    bytes' : (i : ℕ) → seq f' i < 256
    unfolding stepped
    bytes' i = omega (
      arith,
      ap (λ (h : ℕ → ℕ). h i) whole,
      sum_lt (seq f i) (mul poly q (moved (r + 1 - rg) (seq g) i)) (G.bytes i) (mul_lt poly P q (moved (r + 1 - rg) (seq g) i)),
    )

    pub register_stayed : r < l + l → Register poly s (r + 1) f' g l rg b
    register_stayed u = record {
      state =
          subst₂ (λ (n : ℕ) (h : ℕ → ℕ). State poly (seq s) n l h rg (rg - l) (seq g) b) (sym (add-one r)) moved_one
          (stayed poly P (seq s) r l (seq f) rg (rg - l) (seq g) b G.state q (qb ∙ e) u);
      unit = unit';
      bytes = bytes';
      size_f = E.size ∙ G.size_f;
      size_g = G.size_g;
      pos = G.pos;
      within = omega (arith, G.within);
      behind = G.behind;
      least = λ t k m o. G.least t k (makes_less poly (seq s) t r k m) o;
    }

    -- g' is f, as far as the two are not zero
    copied_whole : (g' : List ℕ) → Each (copied f) top g g' → seq g' ≡ seq f
    unfolding Tail
    copied_whole g' C = fun_ext (λ i. elim (dec_lt i top) [
      | yes h ↦ C.done i h
      | no h ↦ C.rest i (omega arith) ∙ G.state.g_tail i (omega arith) ∙ sym (G.state.f_tail i (omega arith))
    ])

    pub register_grown : (g' : List ℕ) → Each (copied f) top g g' → l + l ≤ r → Register poly s (r + 1) f' g' (r + 1 - l) (r + 1) d
    register_grown g' C u = record {
      state =
          let x : suc r - l ≡ r + 1 - l = omega arith in
          let y : l ≡ r + 1 - (r + 1 - l) = omega (arith, G.within) in
          subst (λ (h : ℕ → ℕ). State poly (seq s) (r + 1) (r + 1 - l) (seq f') (r + 1) (r + 1 - (r + 1 - l)) h d) (sym (copied_whole g' C))
          (subst₃ (λ (n m k : ℕ). State poly (seq s) n m (seq f') n k (seq f) d) (sym (add-one r)) x y
          (subst₂ (λ (h : ℕ → ℕ) (v : ℕ). State poly (seq s) (suc r) (suc r - l) h (suc r) l (seq f) v) moved_one (sym e)
          (grown poly P (seq s) r l (seq f) rg (rg - l) (seq g) b G.state q (qb ∙ e) u)));
      unit = unit';
      bytes = bytes';
      size_f = E.size ∙ G.size_f;
      size_g = C.size ∙ G.size_g;
      pos = p;
      within = omega arith;
      behind = omega arith;
      least = λ t n m o.
          let k : r < n + l =
          massey poly P (seq s) (seq f) t l n r G.state.f_makes (λ z. omega arith) (rw (← add-one) m) o in
          omega arith;
    }

-- ---- its start and its end

-- an array of zeros with 1 at its first place
pub one_first : (f : List ℕ) → length f ≡ 256 → ((i : ℕ) → seq f i ≡ 0) → (i : ℕ) → 0 < i → seq (set f 0 1) i ≡ 0
one_first f h z i p = get_or-set_other f 0 i 1 0 (omega arith) ∙ z i

one_bytes : (f : List ℕ) → length f ≡ 256 → ((i : ℕ) → seq f i ≡ 0) → (i : ℕ) → seq (set f 0 1) i < 256
one_bytes f h z i = elim (ℕ_discrete i 0) [
  | yes e ↦ omega (arith, ap (seq (set f 0 1)) e, get_or-set_same f 0 1 0 (omega arith))
  | no d ↦ omega (arith, one_first f h z i (omega arith))
]

pub register_start : (poly : ℕ) (s f g : List ℕ) → length f ≡ 256 → ((i : ℕ) → seq f i ≡ 0) → length g ≡ 256 → ((i : ℕ) → seq g i ≡ 0)
    → Register poly s 0 (set f 0 1) (set g 0 1) 0 0 1
unfolding Tail Generates
register_start poly s f g hf zf hg zg = record {
  state = record {
    f_tail = λ i h. one_first f hf zf i h;
    f_makes = λ x a b. absurd (omega arith);
    g_tail = λ i h. one_first g hg zg i (omega arith);
    g_makes = λ x a b. absurd (omega arith);
    g_miss = λ x e. absurd (omega arith);
    lens = refl;
    before = omega arith;
  };
  unit = get_or-set_same f 0 1 0 (omega arith);
  bytes = one_bytes f hf zf;
  size_f = length-set f 0 1 ∙ hf;
  size_g = length-set g 0 1 ∙ hg;
  pos = omega arith;
  within = omega arith;
  behind = omega arith;
  least = λ t e m o. omega arith;
}

pub zeros : (n i : ℕ) → seq (replicate n 0) i ≡ 0
zeros n i = elim (dec_lt i n) [
  | yes h ↦ get_or-replicate n i 0 0 h
  | no h ↦ get_or-eq_default (replicate n 0) 0 {n = i} (omega (arith, length-replicate {A = ℕ} n 0))
]

pub register_end : (poly : ℕ) (s : List ℕ) (r n : ℕ) (f g : List ℕ) (l rg b : ℕ) → Register poly s r f g l rg b → r ≤ n → n ≤ r → Shortest poly s n f l
register_end poly s r n f g l rg b G h k =
    let e : r ≡ n = omega arith in
    record {
      makes = subst (λ (m : ℕ). Generates poly (seq s) m (seq f) l) e G.state.f_makes;
      tail = G.state.f_tail;
      unit = G.unit;
      bytes = G.bytes;
      size = G.size_f;
      within = omega (arith, G.within);
      least = λ t m q. G.least t m (subst (λ (x : ℕ). Generates poly (seq s) x t m) (sym e) q);
    }
