-- Whether all syndromes are zero: one test, and what it says. Assumes nothing.
use Rattle.general.proofs.Names.{◌≡◌, refl, sym, subst, ◌≢◌, Bool, true, false, List, ℕ, ◌<◌, T, eqb, eqb→eq}
use Rattle.field.proofs.Field.{below_at}
use Rattle.reed_solomon.specs.Sum.{seq}
use Rattle.reed_solomon.specs.Inner.{is_clean}
use Rattle.reed_solomon.proofs.Codeword.{below_all}

true_of : (b : Bool) → T b → true ≡ b
true_of true t = refl
true_of false t = absurd t

false_of : (b : Bool) → (T b → ⊥) → false ≡ b
false_of true t = absurd (t tt)
false_of false t = refl

pub clean_yes : (n : ℕ) (s : List ℕ) → ((j : ℕ) → j < n → seq s j ≡ 0) → true ≡ is_clean n s
unfolding is_clean
clean_yes n s z = true_of (is_clean n s) (below_all n (λ j. eqb (seq s j) 0) (λ j h. subst (λ (x : ℕ). T (eqb x 0)) (sym (z j h)) tt))

pub clean_no : (n : ℕ) (s : List ℕ) (j : ℕ) → j < n → seq s j ≢ 0 → false ≡ is_clean n s
unfolding is_clean
clean_no n s j h d = false_of (is_clean n s) (λ t. d (eqb→eq (seq s j) 0 (below_at n (λ j. eqb (seq s j) 0) t j h)))

pub clean_zero : (n : ℕ) (s : List ℕ) → true ≡ is_clean n s → (j : ℕ) → j < n → seq s j ≡ 0
unfolding is_clean
clean_zero n s e j h = eqb→eq (seq s j) 0 (below_at n (λ j. eqb (seq s j) 0) (subst T e tt) j h)
