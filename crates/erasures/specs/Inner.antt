-- What inner functions say of each other. Nobody has to believe it: the contracts of the operations do not cite it.
use Rattle.std.specs.Prelude.{◌≡◌, ◌≢◌, List, ℕ, suc, ◌+◌, ◌-◌, ◌%◌, ◌<◌, length}
use Rattle.field.specs.Field.{mul}
use Rattle.reed_solomon.specs.Sum.{◌⊕◌, seq, degree}
use Rattle.reed_solomon.specs.Register.{discrepancy, Tail}
use Rattle.reed_solomon.specs.Places.{locator_at}
use Rattle.reed_solomon.specs.Inner.{zeros_of, Shortest}

-- f' is f times x + a
pub record Times (poly a : ℕ) (f f' : List ℕ) : Type 0 where
  pub size : length f' ≡ length f
  pub lead : seq f' 0 ≡ seq f 0
  pub next : (i : ℕ) → seq f' (suc i) ≡ seq f (suc i) ⊕ mul poly (seq f i) a

-- f of length l is multiplied by x + a where the flag is set
pub record TimesIf (poly a flag : ℕ) (l : ℕ) (f : List ℕ) (l' : ℕ) (f' : List ℕ) : Type 0 where
  pub kept : flag ≡ 0 → (l' ≡ l) × (f' ≡ f)
  pub erased : 0 < flag → (l' ≡ l + 1) × Times poly a f f'

-- the value at the place i of n of a locator f of length l
abbrev pub value_at : ℕ → ℕ → List ℕ → ℕ → ℕ → ℕ
value_at poly n f l i = locator_at poly f l (degree n i)

-- f' of length l' is f of length l with the erased places below k, of n, as further roots
pub record Rooted (poly n : ℕ) (flags : List ℕ) (k l : ℕ) (f : List ℕ) (l' : ℕ) (f' : List ℕ) : Type 0 where
  pub size : length f' ≡ 256
  pub bytes : (i : ℕ) → seq f' i < 256
  pub unit : seq f' 0 ≡ 1
  pub count : l' + zeros_of k (seq flags) ≡ l + k
  pub tail : Tail (seq f') l'
  pub erased : (i : ℕ) → i < k → seq flags i ≢ 0 → value_at poly n f' l' i ≡ 0
  pub zero : (i : ℕ) → value_at poly n f l i ≡ 0 → value_at poly n f' l' i ≡ 0
  pub back : (i : ℕ) → i < n → seq flags i ≡ 0 → value_at poly n f' l' i % 256 ≡ 0 → value_at poly n f l i % 256 ≡ 0

-- t holds the first m syndromes of the word with its places multiplied by the value of g, of length f
pub record Modified (poly : ℕ) (s g : List ℕ) (f m : ℕ) (t : List ℕ) : Type 0 where
  pub size : length t ≡ 256
  pub bytes : (i : ℕ) → seq t i < 256
  pub are : (j : ℕ) → j < m → seq t j ≡ discrepancy poly (seq s) (seq g) f (f + j)

-- p of length l is the shortest register that makes the modified syndromes of s, where f places are erased
pub record Reduction (poly parity : ℕ) (flags s : List ℕ) (f : ℕ) (p : List ℕ) (l : ℕ) : Type 0 where
  pub one : List ℕ
  pub unit : seq one 0 ≡ 1
  pub g : List ℕ
  pub rooted : Rooted poly (length flags) flags (length flags) 0 one f g
  pub t : List ℕ
  pub modified : Modified poly s g f (parity - f) t
  pub shortest : Shortest poly t (parity - f) p l
