-- The number of places in which two blocks differ, and which places these are. Assumes nothing.
use Rattle.general.proofs.Names.{◌≡◌, refl, sym, ap, ap₂, ◌∙◌, subst, ◌≢◌, Bool, true, false, cond, List, [], ◌∷◌, ℕ, zero, suc, ◌+◌, ◌-◌, ◌≤◌, ◌<◌, zero-le}
use Rattle.general.proofs.Names.{arith, add-one, add-zero, add-suc, ℕ_discrete, eq-eqb, ne_eqb, T, eqb, eqb→eq, eqb_refl, length, get_or, set, bit_xor, xor_self, xor_zero_r}
use Rattle.reed_solomon.specs.Sum.{◌⊕◌, seq, degree}
use Rattle.reed_solomon.proofs.Sum.{add_cancel}
use Rattle.reed_solomon.proofs.Peel.{Out}
use Rattle.reed_solomon.specs.Block.{distance}
use Rattle.reed_solomon.specs.Inner.{zeros_of}

abbrev or_also : Bool → ℕ → List ℕ → List ℕ
or_also true i l = l
or_also false i l = i ∷ l

-- the places in which two blocks differ, counted from i
pub places : ℕ → List ℕ → List ℕ → List ℕ
places i [] ys = []
places i (x ∷ xs) [] = []
places i (x ∷ xs) (y ∷ ys) = or_also (eqb x y) i (places (suc i) xs ys)

also_length : (t : Bool) (i : ℕ) (l : List ℕ) → length (or_also t i l) ≡ cond t (length l) (suc (length l))
also_length true i l = refl
also_length false i l = refl

pub places_length : (i : ℕ) (xs ys : List ℕ) → length (places i xs ys) ≡ distance xs ys
unfolding places distance
places_length i [] ys = refl
places_length i (x ∷ xs) [] = refl
places_length i (x ∷ xs) (y ∷ ys) = also_length (eqb x y) i (places (suc i) xs ys) ∙ ap (λ (n : ℕ). cond (eqb x y) n (suc n)) (places_length (suc i) xs ys)

-- outside of them the two agree
also_out : (t : Bool) (i m : ℕ) (l : List ℕ) → Out m (or_also t i l) → Out m l
also_out true i m l o = o
also_out false i m l o = o.1

also_hit : (t : Bool) (i m : ℕ) (l : List ℕ) → m ≡ i → Out m (or_also t i l) → T t
also_hit true i m l e o = tt
also_hit false i m l e o = absurd (o.0 e)

pub places_out : (i : ℕ) (xs ys : List ℕ) → length xs ≡ length ys → (k : ℕ) → Out (i + k) (places i xs ys) → get_or xs k 0 ≡ get_or ys k 0
unfolding places
places_out i [] [] e k o = refl
places_out i [] (y ∷ ys) e k o = absurd (omega arith)
places_out i (x ∷ xs) [] e k o = absurd (omega arith)
places_out i (x ∷ xs) (y ∷ ys) e zero o = eqb→eq x y (also_hit (eqb x y) i (i + 0) (places (suc i) xs ys) (omega arith) o)
places_out i (x ∷ xs) (y ∷ ys) e (suc k) o =
    places_out (suc i) xs ys (omega arith) k
    (let m : i + suc k ≡ suc i + k = omega arith in
    subst (λ (m : ℕ). Out m (places (suc i) xs ys)) m (also_out (eqb x y) i (i + suc k) (places (suc i) xs ys) o))

tick_triangle : (p q r : Bool) (a b c : ℕ) → (T p → T q → T r) → a ≤ b + c → cond r a (suc a) ≤ cond p b (suc b) + cond q c (suc c)
tick_triangle true true true a b c f h = h
tick_triangle true true false a b c f h = absurd (f tt tt)
tick_triangle true false true a b c f h = omega arith
tick_triangle true false false a b c f h = omega arith
tick_triangle false true true a b c f h = omega arith
tick_triangle false true false a b c f h = omega arith
tick_triangle false false true a b c f h = omega arith
tick_triangle false false false a b c f h = omega arith

pub triangle : (ws us vs : List ℕ) → length ws ≡ length us → length ws ≡ length vs → distance us vs ≤ distance ws us + distance ws vs
unfolding distance
triangle ws [] vs e f = zero-le
triangle ws (u ∷ us) [] e f = zero-le
triangle [] (u ∷ us) (v ∷ vs) e f = absurd (omega arith)
triangle (w ∷ ws) (u ∷ us) (v ∷ vs) e f =
    tick_triangle (eqb w u) (eqb w v) (eqb u v) (distance us vs) (distance ws us) (distance ws vs)
    (λ p q. subst (λ (x : ℕ). T (eqb u x)) (sym (eqb→eq w u p) ∙ eqb→eq w v q) (eqb_refl u)) (triangle ws us vs (omega arith) (omega arith))

-- a block differs from itself in no place, and from no other
flag_same : (x n : ℕ) → cond (eqb x x) n (suc n) ≡ n
flag_same x n = simp (eq-eqb x x refl)

pub distance_self : (w : List ℕ) → distance w w ≡ 0
unfolding distance
distance_self [] = refl
distance_self (x ∷ xs) = flag_same x (distance xs xs) ∙ distance_self xs

pub distance_none : (u v : List ℕ) → length u ≡ length v → distance u v ≡ 0 → u ≡ v
unfolding distance
distance_none [] [] h e = refl
distance_none [] (y ∷ v) h e = absurd (omega arith)
distance_none (x ∷ u) [] h e = absurd (omega arith)
distance_none (x ∷ u) (y ∷ v) h e = elim (ℕ_discrete x y) [
  | yes q ↦ ap₂ (λ (a : ℕ) (l : List ℕ). a ∷ l) q (distance_none u v (omega arith) (simp (eq-eqb x y q) at e))
  | no d ↦ absurd (let n : suc (distance u v) ≡ 0 = simp (ne_eqb x y d) at e in omega arith)
]

-- one byte of a block changed
pub distance_set : (w : List ℕ) (k x : ℕ) → k < length w → distance w (set w k x) ≡ cond (eqb (seq w k) x) 0 1
unfolding distance
distance_set [] k x h = absurd (omega arith)
distance_set (y ∷ w) zero x h = ap (λ (n : ℕ). cond (eqb y x) n (suc n)) (distance_self w)
distance_set (y ∷ w) (suc k) x h = flag_same y (distance w (set w k x)) ∙ distance_set w k x (omega arith)

-- what agrees where u and v do differs in no more places
pub distance_mono : (u v u' v' : List ℕ) → length u ≡ length v → length u ≡ length u' → length u ≡ length v'
    → ((i : ℕ) → i < length u → seq u i ≡ seq v i → seq u' i ≡ seq v' i) → distance u' v' ≤ distance u v
unfolding distance
distance_mono [] v [] v' a b c h = zero-le
distance_mono [] v (x ∷ u') v' a b c h = absurd (omega arith)
distance_mono (x ∷ u) [] u' v' a b c h = absurd (omega arith)
distance_mono (x ∷ u) (y ∷ v) [] v' a b c h = absurd (omega arith)
distance_mono (x ∷ u) (y ∷ v) (x' ∷ u') [] a b c h = absurd (omega arith)
distance_mono (x ∷ u) (y ∷ v) (x' ∷ u') (y' ∷ v') a b c h =
    let t = distance_mono u v u' v' (omega arith) (omega arith) (omega arith) (λ i l. h (suc i) (omega arith)) in
    elim (ℕ_discrete x y) [
      | yes q ↦ simp (eq-eqb x y q, eq-eqb x' y' (h 0 (omega arith) q)) (omega (arith, t))
      | no d ↦ simp (ne_eqb x y d) (elim (ℕ_discrete x' y') [
        | yes q ↦ simp (eq-eqb x' y' q) (omega (arith, t))
        | no d ↦ simp (ne_eqb x' y' d) (omega (arith, t))
      ])
    ]

-- ---- how many of the first n are zero

pub zeros_more : (f : ℕ → ℕ) (n : ℕ) → f n ≡ 0 → zeros_of (n + 1) f ≡ zeros_of n f + 1
unfolding zeros_of
zeros_more f n z = simp (add-one, eq-eqb (f n) 0 z)

pub zeros_same : (f : ℕ → ℕ) (n : ℕ) → f n ≢ 0 → zeros_of (n + 1) f ≡ zeros_of n f
unfolding zeros_of
zeros_same f n d = simp (add-one, ne_eqb (f n) 0 d, add-zero)

pub zeros_ext : (n : ℕ) (f g : ℕ → ℕ) → ((d : ℕ) → d < n → f d ≡ g d) → zeros_of n f ≡ zeros_of n g
unfolding zeros_of
zeros_ext zero f g e = refl
zeros_ext (suc n) f g e = ap₂ (λ (a b : ℕ). a + cond (eqb b 0) 1 0) (zeros_ext n f g (λ d h. e d (omega arith))) (e n (omega arith))

-- all are zero
pub zeros_all : (n : ℕ) (f : ℕ → ℕ) → ((i : ℕ) → f i ≡ 0) → zeros_of n f ≡ n
unfolding zeros_of
zeros_all zero f z = refl
zeros_all (suc n) f z = simp (eq-eqb (f n) 0 (z n), zeros_all n f z) (omega arith)

-- m places more have at most m zeros more
pub zeros_gap : (f : ℕ → ℕ) (n m : ℕ) → zeros_of (n + m) f ≤ zeros_of n f + m
unfolding zeros_of
zeros_gap f n zero = simp add-zero (omega arith)
zeros_gap f n (suc m) = simp add-suc (one (eqb (f (n + m)) 0) (zeros_gap f n m))
  where
    one : (b : Bool) → zeros_of (n + m) f ≤ zeros_of n f + m → zeros_of (n + m) f + cond b 1 0 ≤ suc (zeros_of n f + m)
    one true h = omega arith
    one false h = omega arith

-- no fewer than two blocks differ in, if f is zero at the degree of each place in which they do
pub differ_zeros : (f : ℕ → ℕ) (xs ys : List ℕ) → ((k : ℕ) → k < length xs → seq xs k ≢ seq ys k → f (degree (length xs) k) ≡ 0)
    → distance xs ys ≤ zeros_of (length xs) f
unfolding distance zeros_of degree
differ_zeros f [] ys z = zero-le
differ_zeros f (x ∷ xs) [] z = zero-le
differ_zeros f (x ∷ xs) (y ∷ ys) z =
    let head : length xs ≡ suc (length xs) - 1 = omega arith in
    let tail : (k : ℕ) → length xs - suc k ≡ suc (length xs) - suc (suc k) = λ k. omega arith in
    let t = differ_zeros f xs ys (λ k h d. ap f (tail k) ∙ z (suc k) (omega arith) d) in
    elim (ℕ_discrete x y) [
      | yes q ↦ simp (eq-eqb x y q) (omega (arith, t))
      | no d ↦ simp (ne_eqb x y d, eq-eqb (f (length xs)) 0 (ap f head ∙ z 0 (omega arith) d)) (omega (arith, t))
    ]

-- as many as two blocks agree in, if f is what has to be added to one to give the other
pub agree_zeros : (f : ℕ → ℕ) (xs ys : List ℕ) → length xs ≡ length ys → ((k : ℕ) → k < length xs → seq ys k ≡ seq xs k ⊕ f (degree (length xs) k))
    → distance xs ys + zeros_of (length xs) f ≡ length xs
unfolding distance zeros_of degree
agree_zeros f [] ys h z = refl
agree_zeros f (x ∷ xs) [] h z = absurd (omega arith)
agree_zeros f (x ∷ xs) (y ∷ ys) h z =
    let head : suc (length xs) - 1 ≡ length xs = omega arith in
    let tail : (k : ℕ) → suc (length xs) - suc (suc k) ≡ length xs - suc k = λ k. omega arith in
    let e : y ≡ x ⊕ f (length xs) = z 0 (omega arith) ∙ ap (λ (d : ℕ). x ⊕ f d) head in
    let t = agree_zeros f xs ys (omega arith) (λ k l. z (suc k) (omega arith) ∙ ap (λ (d : ℕ). seq xs k ⊕ f d) (tail k)) in
    elim (ℕ_discrete (f (length xs)) 0) [
      | yes q ↦ simp (eq-eqb (f (length xs)) 0 q, eq-eqb x y (sym (e ∙ ap (bit_xor x) q ∙ xor_zero_r x))) (omega (arith, t))
      | no d ↦ simp (ne_eqb (f (length xs)) 0 d, ne_eqb x y (λ q. d (sym (add_cancel x (f (length xs))) ∙ ap (bit_xor x) (sym e ∙ sym q) ∙ xor_self x)))
          (omega (arith, t))
    ]
