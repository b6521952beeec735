-- A block's values are its syndromes, and two codewords differ in more places than they have parity. Assumes nothing.
use Rattle.general.proofs.Names.{◌≡◌, refl, sym, ap, ap₂, ◌∙◌, subst, Bool, true, false, ◌&&◌, List, [], ◌∷◌, ◌++◌, ℕ, zero, suc, ◌+◌, ◌%◌, ◌≤◌, ◌<◌, arith}
use Rattle.general.proofs.Names.{T, eqb, eqb→eq, length, get_or, drop, drop_of_length-le, drop-cons, ext_get_or, xor_self}
use Rattle.field.specs.Field.{power, mul, below}
use Rattle.field.proofs.Field.{Primitive, below_at, sum_lt}
use Rattle.reed_solomon.specs.Sum.{◌⊕◌, seq, horner, syndrome}
use Rattle.reed_solomon.proofs.Sum.{Null, add_zero_eq}
use Rattle.reed_solomon.proofs.Peel.{Out, syndrome_add, only_zero}
use Rattle.reed_solomon.proofs.Horner.{syndrome_value}
use Rattle.reed_solomon.specs.Block.{eval_from, eval, is_codeword, distance}
use Rattle.reed_solomon.proofs.Search.{Bytes}
use Rattle.reed_solomon.proofs.Distance.{places, places_length, places_out}

-- ---- the value of a block

value_so_far : (poly x : ℕ) (w : List ℕ) (i : ℕ) → i ≤ length w → eval_from poly x (horner poly (seq w) x i) (drop i w) ≡ eval poly x w
unfolding horner eval_from
value_so_far poly x w zero h = refl
value_so_far poly x w (suc i) h =
    sym (ap (eval_from poly x (horner poly (seq w) x i)) (drop-cons w i 0 h) ∙ next (horner poly (seq w) x i) (get_or w i 0) (drop (suc i) w))
    ∙ value_so_far poly x w i (omega arith)
  where
    next : (acc b : ℕ) (bs : List ℕ) → eval_from poly x acc (b ∷ bs) ≡ eval_from poly x (mul poly acc x ⊕ b) bs
    next acc b bs = refl

pub eval_horner : (poly x : ℕ) (w : List ℕ) → eval poly x w ≡ horner poly (seq w) x (length w)
unfolding eval_from
eval_horner poly x w =
    sym (value_so_far poly x w (length w) (omega arith))
    ∙ ap (eval_from poly x (horner poly (seq w) x (length w))) (drop_of_length-le w {i = length w} (omega arith))

-- the value behind that of the first bytes
pub eval_append : (poly x acc : ℕ) (xs ys : List ℕ) → eval_from poly x acc (xs ++ ys) ≡ eval_from poly x (eval_from poly x acc xs) ys
unfolding eval_from
eval_append poly x acc [] ys = refl
eval_append poly x acc (b ∷ xs) ys = eval_append poly x (mul poly acc x ⊕ b) xs ys

-- ---- what is a codeword

pub both : (a b : Bool) → T a → T b → T (a && b)
both true b p q = q
both false b p q = absurd p

pub below_all : (n : ℕ) (f : ℕ → Bool) → ((k : ℕ) → k < n → T (f k)) → T (below n f)
unfolding below
below_all zero f h = tt
below_all (suc n) f h = both (f n) (below n f) (h n (omega arith)) (below_all n f (λ k l. h k (omega arith)))

module _ (poly first parity : ℕ) (w : List ℕ) where
  abbrev test : ℕ → Bool
  test j = eqb (eval poly (power poly (first + j)) w) 0

  pub codeword_zero : T (is_codeword poly first parity w) → (j : ℕ) → j < parity → eval poly (power poly (first + j)) w ≡ 0
  unfolding is_codeword
  codeword_zero t j h = eqb→eq (eval poly (power poly (first + j)) w) 0 (below_at parity test t j h)

  pub zero_codeword : ((j : ℕ) → j < parity → eval poly (power poly (first + j)) w ≡ 0) → T (is_codeword poly first parity w)
  unfolding is_codeword
  zero_codeword z = below_all parity test (λ j h. subst (λ (x : ℕ). T (eqb x 0)) (sym (z j h)) tt)

-- ---- syndromes

-- the syndromes of a block as a word
abbrev pub syndrome_of : ℕ → ℕ → List ℕ → ℕ → ℕ
syndrome_of poly first w = syndrome poly first (length w) (seq w)

-- the difference of two blocks
abbrev pub difference : List ℕ → List ℕ → ℕ → ℕ
difference u v i = seq u i ⊕ seq v i

-- where they agree it is zero
pub difference_null : (u v : List ℕ) (i : ℕ) → length u ≡ length v → Out i (places 0 u v) → Null (difference u v i)
difference_null u v i e o =
    ap (λ (x : ℕ). (x ⊕ seq v i) % 256) (places_out 0 u v e i (let m : i ≡ 0 + i = omega arith in subst (λ (x : ℕ). Out x (places 0 u v)) m o))
    ∙ ap (λ (x : ℕ). x % 256) (xor_self (seq v i))

module _ (poly : ℕ) (P : Primitive poly) (first : ℕ) where
  pub eval_syndrome : (w : List ℕ) (j : ℕ) → Bytes w → eval poly (power poly (first + j)) w ≡ syndrome_of poly first w j
  eval_syndrome w j b = eval_horner poly (power poly (first + j)) w ∙ syndrome_value poly P first (length w) (seq w) j b

  pub difference_syndrome : (u v : List ℕ) (j : ℕ) → length u ≡ length v → Bytes u → Bytes v
      → syndrome poly first (length u) (difference u v) j ≡ eval poly (power poly (first + j)) u ⊕ eval poly (power poly (first + j)) v
  difference_syndrome u v j e bu bv =
      syndrome_add poly P first (length u) (seq u) (seq v) j
      ∙ sym (ap₂ ◌⊕◌ (eval_syndrome u j bu) (eval_syndrome v j bv ∙ ap (λ (n : ℕ). syndrome poly first n (seq v) j) (sym e)))

  -- two codewords that differ in no more places than they have parity are one
  pub near_equal : (parity : ℕ) (u v : List ℕ) → length u ≤ 255 → length u ≡ length v → Bytes u → Bytes v
      → T (is_codeword poly first parity u) → T (is_codeword poly first parity v) → distance u v ≤ parity → u ≡ v
  near_equal parity u v small e bu bv cu cv d =
      let all : (i : ℕ) → i < length u → Null (difference u v i) =
      only_zero poly P first (length u) small (places 0 u v) 0 parity (difference u v) (omega (arith, places_length 0 u v))
      (λ i l o. difference_null u v i e o)
      (λ j lo hi. difference_syndrome u v j e bu bv
      ∙ ap₂ ◌⊕◌ (codeword_zero poly first parity u cu j (omega arith)) (codeword_zero poly first parity v cv j (omega arith))) in
      ext_get_or 0 u v e (λ i l. add_zero_eq (seq u i) (seq v i) (omega (arith, all i l, sum_lt (seq u i) (seq v i) (bu i) (bv i))))
