-- Massey's bound, and that one step of Berlekamp and Massey's algorithm makes one value more. Assumes nothing.
use Rattle.general.proofs.Names.{◌≡◌, sym, ap, ap₂, ◌∙◌, if_pos, if_neg, ℕ, suc, ◌+◌, ◌-◌, ◌%◌, ◌≤◌, ◌<◌, arith, ℕ_discrete, dec_lt, dec_le, xor_self}
use Rattle.general.proofs.Names.{xor_zero_r}
use Rattle.field.specs.Field.{mul}
use Rattle.field.proofs.Field.{Primitive, mul_assoc}
use Rattle.field.proofs.Field.{mul_sum as sum-mul}
use Rattle.field.proofs.Entries.{mul_left_zero, mul_right_zero}
use Rattle.reed_solomon.specs.Sum.{◌⊕◌, sum}
use Rattle.reed_solomon.specs.Register.{discrepancy, Generates, Tail, moved, stepped, State}
use Rattle.reed_solomon.proofs.Sum.{Null, sum_ext, sum_add, sum_zero, sum_one, sum_swap, sum_more, sum_drop, sum_scale, mul_left}
use Rattle.reed_solomon.proofs.Peel.{null_div}

-- only the values up to x count
pub discrepancy_ext : (poly : ℕ) (s t f : ℕ → ℕ) (l x : ℕ) → ((j : ℕ) → j ≤ x → s j ≡ t j) → discrepancy poly s f l x ≡ discrepancy poly t f l x
unfolding discrepancy
discrepancy_ext poly s t f l x e =
    sum_ext (λ i. mul poly (f i) (s (x - i))) (λ i. mul poly (f i) (t (x - i))) (suc l) (λ i h. ap (mul poly (f i)) (e (x - i) (omega arith)))

pub moved_low : (m : ℕ) (g : ℕ → ℕ) (i : ℕ) → i < m → moved m g i ≡ 0
unfolding moved
moved_low m g i h = if_neg (dec_le m i) (omega arith) (g (i - m)) 0

pub moved_high : (m : ℕ) (g : ℕ → ℕ) (i : ℕ) → m ≤ i → moved m g i ≡ g (i - m)
unfolding moved
moved_high m g i h = if_pos (dec_le m i) h (g (i - m)) 0

pub stepped_low : (poly q m : ℕ) (f g : ℕ → ℕ) (i : ℕ) → i < m → stepped poly q m f g i ≡ f i
unfolding stepped
stepped_low poly q m f g i h = ap (λ (x : ℕ). f i ⊕ mul poly q x) (moved_low m g i h) ∙ ap (λ (x : ℕ). f i ⊕ x) (mul_right_zero poly q) ∙ xor_zero_r (f i)

pub stepped_high : (poly q m : ℕ) (f g : ℕ → ℕ) (i : ℕ) → m ≤ i → stepped poly q m f g i ≡ f i ⊕ mul poly q (g (i - m))
unfolding stepped
stepped_high poly q m f g i h = ap (λ (x : ℕ). f i ⊕ mul poly q x) (moved_high m g i h)

-- past both lengths a step leaves zeros
pub stepped_tail : (poly q : ℕ) (f g : ℕ → ℕ) (l lg m l' : ℕ) → Tail f l → Tail g lg → l ≤ l' → lg + m ≤ l' → Tail (stepped poly q m f g) l'
unfolding Tail
stepped_tail poly q f g l lg m l' tf tg h k i o =
    stepped_high poly q m f g i (omega arith) ∙ ap₂ (λ (x y : ℕ). x ⊕ mul poly q y) (tf i (omega arith)) (tg (i - m) (omega arith)) ∙ mul_right_zero poly q

module _ (poly : ℕ) (P : Primitive poly) (s : ℕ → ℕ) where
  abbrev ◌⊗◌ : ℕ → ℕ → ℕ
  ◌⊗◌ = mul poly

  infixl 70 ◌⊗◌
  abbrev miss : (ℕ → ℕ) → ℕ → ℕ → ℕ
  miss = discrepancy poly s

  abbrev makes : ℕ → (ℕ → ℕ) → ℕ → Type 0
  makes = Generates poly s

  -- the double sum, in either order
  both_ways : (f g : ℕ → ℕ) (l e r : ℕ) → sum (λ i. f i ⊗ miss g e (r - i)) (suc l) ≡ sum (λ j. g j ⊗ miss f l (r - j)) (suc e)
  unfolding discrepancy
  both_ways f g l e r =
      sum_ext (λ i. f i ⊗ sum (λ j. g j ⊗ s (r - i - j)) (suc e)) (λ i. sum (λ j. f i ⊗ (g j ⊗ s (r - i - j))) (suc e)) (suc l)
      (λ i l. sym (sum_scale poly P (f i) (λ j. g j ⊗ s (r - i - j)) (suc e)))
      ∙ sum_swap (λ i j. f i ⊗ (g j ⊗ s (r - i - j))) (suc l) (suc e)
      ∙ sum_ext (λ j. sum (λ i. f i ⊗ (g j ⊗ s (r - i - j))) (suc l)) (λ j. g j ⊗ sum (λ i. f i ⊗ s (r - j - i)) (suc l)) (suc e)
      (λ j h. sum_ext (λ i. f i ⊗ (g j ⊗ s (r - i - j))) (λ i. g j ⊗ (f i ⊗ s (r - j - i))) (suc l)
      (λ i h. mul_left poly P (f i) (g j) (s (r - i - j))
      ∙ (let e : r - i - j ≡ r - j - i = omega arith in ap (λ (x : ℕ). g j ⊗ (f i ⊗ s x)) e))
      ∙ sum_scale poly P (g j) (λ i. f i ⊗ s (r - j - i)) (suc l))

  -- Massey: a register that makes r values and misses the next; whatever makes that one too is long
  pub massey : (f t : ℕ → ℕ) (l e r : ℕ) → makes r f l → ¬ Null (miss f l r) → makes (suc r) t e → ¬ Null (t 0) → r < e + l
  unfolding Generates
  massey f t l e r mf d mt t0 = elim (dec_lt r (e + l)) [
    | yes h ↦ h
    | no h ↦ absurd (t0 (null_div poly P (t 0) (miss f l r)
        (ap (λ (x : ℕ). x % 256)
        (sym
        (sym (sum_zero (λ i. f i ⊗ miss t e (r - i)) (suc l)
        (λ i g. ap (mul poly (f i)) (mt (r - i) (omega arith) (omega arith)) ∙ mul_right_zero poly (f i)))
        ∙ both_ways f t l e r
        ∙ sum_one (λ j. t j ⊗ miss f l (r - j)) (suc e) 0 (omega arith)
        (λ j g n. ap (mul poly (t j)) (mf (r - j) (omega arith) (omega arith)) ∙ mul_right_zero poly (t j))
        ∙ (let z : r - 0 ≡ r = omega arith in ap (λ (x : ℕ). t 0 ⊗ miss f l x) z))))
        d))
  ]

  moved_miss : (g : ℕ → ℕ) (lg m l x : ℕ) → Tail g lg → lg + m ≤ l → l ≤ x → sum (λ i. moved m g i ⊗ s (x - i)) (suc l) ≡ miss g lg (x - m)
  unfolding discrepancy Tail
  moved_miss g lg m l x tg h k =
      (let n : suc l ≡ m + (suc l - m) = omega arith in ap (sum (λ i. moved m g i ⊗ s (x - i))) n)
      ∙ sum_drop (λ i. moved m g i ⊗ s (x - i)) m (suc l - m)
      (λ i o. ap (λ (y : ℕ). y ⊗ s (x - i)) (moved_low m g i o) ∙ mul_left_zero poly (s (x - i)))
      ∙ sum_ext (λ j. moved m g (m + j) ⊗ s (x - (m + j))) (λ j. g j ⊗ s (x - m - j)) (suc l - m)
      (λ j o. ap₂ (mul poly)
      (moved_high m g (m + j) (omega arith) ∙ (let e : m + j - m ≡ j = omega arith in ap g e))
      (let e : x - (m + j) ≡ x - m - j = omega arith in ap s e))
      ∙ sum_more (λ j. g j ⊗ s (x - m - j)) (suc lg) (suc l - m) (omega arith)
      (λ j o p. ap (λ (y : ℕ). y ⊗ s (x - m - j)) (tg j o) ∙ mul_left_zero poly (s (x - m - j)))

  -- what a step misses
  pub stepped_miss : (q : ℕ) (f g : ℕ → ℕ) (l lg m l' x : ℕ) → Tail f l → Tail g lg → l ≤ l' → lg + m ≤ l' → l' ≤ x
      → miss (stepped poly q m f g) l' x ≡ miss f l x ⊕ q ⊗ miss g lg (x - m)
  unfolding discrepancy stepped Tail
  stepped_miss q f g l lg m l' x tf tg h k o =
      sum_ext (λ i. (f i ⊕ q ⊗ moved m g i) ⊗ s (x - i)) (λ i. f i ⊗ s (x - i) ⊕ q ⊗ (moved m g i ⊗ s (x - i))) (suc l')
      (λ i _. sum-mul poly P (f i) (q ⊗ moved m g i) (s (x - i)) ∙ ap (λ (y : ℕ). f i ⊗ s (x - i) ⊕ y) (mul_assoc poly P q (moved m g i) (s (x - i))))
      ∙ sum_add (λ i. f i ⊗ s (x - i)) (λ i. q ⊗ (moved m g i ⊗ s (x - i))) (suc l')
      ∙ ap₂ ◌⊕◌
      (sum_more (λ i. f i ⊗ s (x - i)) (suc l) (suc l') (omega arith)
      (λ i a b. ap (λ (y : ℕ). y ⊗ s (x - i)) (tf i a) ∙ mul_left_zero poly (s (x - i))))
      (sum_scale poly P q (λ i. moved m g i ⊗ s (x - i)) (suc l') ∙ ap (mul poly q) (moved_miss g lg m l' x tg k o))

  module _ (r l : ℕ) (f : ℕ → ℕ) (rg lg : ℕ) (g : ℕ → ℕ) (b : ℕ) (I : State poly s r l f rg lg g b) where
    -- nothing missed
    pub kept : miss f l r ≡ 0 → State poly s (suc r) l f rg lg g b
    unfolding Generates
    kept z = record {
      f_tail = I.f_tail;
      f_makes = λ x h k. elim (ℕ_discrete x r) [ yes e ↦ ap (miss f l) e ∙ z | no d ↦ I.f_makes x h (omega arith) ];
      g_tail = I.g_tail;
      g_makes = I.g_makes;
      g_miss = I.g_miss;
      lens = I.lens;
      before = omega (arith, I.before);
    }

    module _ (q : ℕ) (qb : q ⊗ b ≡ miss f l r) where
      makes_more : (l' : ℕ) → l ≤ l' → lg + (suc r - rg) ≤ l' → makes (suc r) (stepped poly q (suc r - rg) f g) l'
      unfolding Generates
      makes_more l' h k x o p =
          stepped_miss q f g l lg (suc r - rg) l' x I.f_tail I.g_tail h k o
          ∙ elim (ℕ_discrete x r) [
            | yes e ↦ ap₂ (λ (u v : ℕ). u ⊕ q ⊗ v) (ap (miss f l) e) (I.g_miss (x - (suc r - rg)) (omega (arith, I.before)))
                ∙ ap (λ (u : ℕ). miss f l r ⊕ u) qb ∙ xor_self (miss f l r)
            | no d ↦ ap₂ (λ (u v : ℕ). u ⊕ q ⊗ v) (I.f_makes x (omega arith) (omega arith)) (I.g_makes (x - (suc r - rg)) (omega arith) (omega (arith, I.before)))
                ∙ mul_right_zero poly q
          ]

      -- missed, and the length stays
      pub stayed : r < l + l → State poly s (suc r) l (stepped poly q (suc r - rg) f g) rg lg g b
      stayed h = record {
        f_tail = stepped_tail poly q f g l lg (suc r - rg) l I.f_tail I.g_tail (omega arith) (omega (arith, I.lens));
        f_makes = makes_more l (omega arith) (omega (arith, I.lens));
        g_tail = I.g_tail;
        g_makes = I.g_makes;
        g_miss = I.g_miss;
        lens = I.lens;
        before = omega (arith, I.before);
      }

      -- missed, and the length grows
      pub grown : l + l ≤ r → State poly s (suc r) (suc r - l) (stepped poly q (suc r - rg) f g) (suc r) l f (miss f l r)
      unfolding Generates
      grown h = record {
        f_tail = stepped_tail poly q f g l lg (suc r - rg) (suc r - l) I.f_tail I.g_tail (omega arith) (omega (arith, I.lens, I.before));
        f_makes = makes_more (suc r - l) (omega arith) (omega (arith, I.lens, I.before));
        g_tail = I.f_tail;
        g_makes = λ x o p. I.f_makes x o (omega arith);
        g_miss = λ x e. (let e' : x ≡ r = omega arith in ap (miss f l) e');
        lens = omega arith;
        before = omega arith;
      }
