-- Lists by a rule. Assumes nothing.
use Rattle.general.proofs.Names.{◌≡◌, refl, ◌∙◌, Bool, true, false, [], ◌∷◌, ◌++◌, ℕ, zero, suc, ◌<◌, not-suc-le-zero, arith, eqb, length, get_or}
use Rattle.general.proofs.Names.{length-append, get_or-append, get_or_at, eqb-true, eqb-false}
use Rattle.general.specs.Lists.{each}
use Rattle.general.specs.Each.{table}

pub length_table : (n : ℕ) (f : ℕ → ℕ) → length (table n f) ≡ n
unfolding each
length_table zero f = refl
length_table (suc n) f = length-append (table n f) (f n ∷ []) ∙ (let h : length (table n f) ≡ n = length_table n f in omega arith)

pub get_or_table : (n : ℕ) (f : ℕ → ℕ) (i : ℕ) → i < n → get_or (table n f) i 0 ≡ f i
unfolding each
get_or_table zero f i h = absurd (not-suc-le-zero h)
get_or_table (suc n) f i h = by (eqb i n) refl (get_or_table n f i)
  where
    by : (t : Bool) → eqb i n ≡ t → (i < n → get_or (table n f) i 0 ≡ f i) → get_or (table n f ++ (f n ∷ [])) i 0 ≡ f i
    by true e ih = let d : i ≡ n = eqb-true i n e in rw d (get_or_at (table n f) (f n) [] 0 n (length_table n f))
    by false e ih = let l : i < n = omega (arith, eqb-false i n e) in get_or-append (table n f) (f n ∷ []) 0 i (omega (arith, length_table n f)) ∙ ih l
