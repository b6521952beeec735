-- Loops that replace the elements of an array one after the other. Assumes nothing.
use mathlib.Core.Path.{◌≡◌, refl, sym, ap, ◌∙◌, subst}
use mathlib.Core.List.{List}
use Prim.Native.Nat.{ℕ, ◌+◌, ◌-◌, ◌≤◌, ◌<◌}
use native.Mathlib.Omega.{arith}
use native.Mathlib.Decide.{ℕ_discrete, dec_lt}
use lib.ListN.{length, get_or, set, length-set}
use lib.Seq.{get_or-set_same, get_or-set_other}
use Rattle.general.specs.Each.{Each}

abbrev seq : List ℕ → ℕ → ℕ
seq s i = get_or s i 0

-- nothing changes where F leaves each of the first n as it is
pub each_same : (F : ℕ → ℕ → ℕ) (n : ℕ) (s : List ℕ) → ((i : ℕ) → i < n → seq s i ≡ F i (seq s i)) → Each F n s s
each_same F n s h = record { size = refl; done = h; rest = λ i l. refl }

pub each_start : (F : ℕ → ℕ → ℕ) (s : List ℕ) → Each F 0 s s
each_start F s = each_same F 0 s (λ i h. absurd (omega arith))

pub each_next : (F : ℕ → ℕ → ℕ) (n v : ℕ) (s s' : List ℕ) → Each F n s s' → n < length s → v ≡ F n (seq s' n) → Each F (n + 1) s (set s' n v)
each_next F n v s s' E h e = record {
  size = length-set s' n v ∙ E.size;
  done = λ i l. elim (ℕ_discrete i n) [
    | yes q ↦ ap (seq (set s' n v)) q ∙ get_or-set_same s' n v 0 (omega (arith, E.size)) ∙ e ∙ ap (F n) (E.rest n (omega arith)) ∙ ap (λ (x : ℕ). F x (seq s x)) (sym q)
    | no d ↦ get_or-set_other s' n i v 0 d ∙ E.done i (omega arith)
  ];
  rest = λ i l. get_or-set_other s' n i v 0 (omega arith) ∙ E.rest i (omega arith);
}

-- the loop is through
pub each_end : (F : ℕ → ℕ → ℕ) (j n : ℕ) (s s' : List ℕ) → Each F j s s' → j ≤ n → n ≤ j → Each F n s s'
each_end F j n s s' E a b = let e : j ≡ n = omega arith in subst (λ (k : ℕ). Each F k s s') e E

-- ---- from the top down

-- the places from i to the one before top, each replaced by F of its place and itself; the others as they were
pub record Above (F : ℕ → ℕ → ℕ) (i top : ℕ) (s s' : List ℕ) : Type 0 where
  pub size : length s' ≡ length s
  pub done : (k : ℕ) → i ≤ k → k < top → seq s' k ≡ F k (seq s k)
  pub below : (k : ℕ) → k < i → seq s' k ≡ seq s k
  pub rest : (k : ℕ) → top ≤ k → seq s' k ≡ seq s k

module _ (F : ℕ → ℕ → ℕ) (top : ℕ) (s : List ℕ) where
  pub above_start : Above F top top s s
  above_start = record { size = refl; done = λ k a b. absurd (omega arith); below = λ k h. refl; rest = λ k h. refl }

  pub above_next : (i v : ℕ) (s' : List ℕ) → Above F i top s s' → 0 < i → i ≤ top → top ≤ length s → v ≡ F (i - 1) (seq s' (i - 1))
      → Above F (i - 1) top s (set s' (i - 1) v)
  above_next i v s' A p h l e = record {
    size = length-set s' (i - 1) v ∙ A.size;
    done = λ k a b. elim (ℕ_discrete k (i - 1)) [
      | yes q ↦ ap (seq (set s' (i - 1) v)) q ∙ get_or-set_same s' (i - 1) v 0 (omega (arith, A.size)) ∙ e ∙ ap (F (i - 1)) (A.below (i - 1) (omega arith))
          ∙ ap (λ (x : ℕ). F x (seq s x)) (sym q)
      | no d ↦ get_or-set_other s' (i - 1) k v 0 d ∙ A.done k (omega arith) b
    ];
    below = λ k a. get_or-set_other s' (i - 1) k v 0 (omega arith) ∙ A.below k (omega arith);
    rest = λ k a. get_or-set_other s' (i - 1) k v 0 (omega arith) ∙ A.rest k a;
  }

  -- F leaves those below as they are
  pub above_end : (i : ℕ) (s' : List ℕ) → Above F i top s s' → ((k : ℕ) → k < i → seq s k ≡ F k (seq s k)) → Each F top s s'
  above_end i s' A z = record {
    size = A.size;
    done = λ k h. elim (dec_lt k i) [ yes l ↦ A.below k l ∙ z k l | no l ↦ A.done k (omega arith) h ];
    rest = A.rest;
  }
