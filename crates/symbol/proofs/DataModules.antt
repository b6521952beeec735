-- How many data modules a layout has, counted one by one. Assumes nothing.
use Rattle.general.proofs.Names.{◌≡◌, refl, sym, ap, ap₂, ◌∙◌, Bool, true, false, cond, ◌≢◌, List, [], ◌∷◌, ◌++◌, ℕ, suc, ◌+◌, ◌<◌, ◌≤◌, arith, eqb, length}
use Rattle.general.proofs.Names.{take, get_or, take-suc, add-one, ne_eqb}
use Rattle.symbol.specs.Layout.{data_modules}

-- one module more
pub module_hit : (k : ℕ) (us : List ℕ) → k ≡ 0 → data_modules (k ∷ us) ≡ suc (data_modules us)
unfolding data_modules
module_hit k us e = rw e

pub module_miss : (k : ℕ) (us : List ℕ) → k ≢ 0 → data_modules (k ∷ us) ≡ data_modules us
unfolding data_modules
module_miss k us n = rw (ne_eqb k 0 n)

pub modules_append : (us vs : List ℕ) → data_modules (us ++ vs) ≡ data_modules us + data_modules vs
unfolding data_modules
modules_append [] vs = omega arith
modules_append (k ∷ us) vs = rw (modules_append us vs) (by (eqb k 0))
  where
    by : (b : Bool) → cond b (suc (data_modules us + data_modules vs)) (data_modules us + data_modules vs) ≡ cond b (suc (data_modules us)) (data_modules us) + data_modules vs
    by true = omega arith
    by false = refl

-- data modules of the first n kinds, counted one by one
pub modules_more : (ks : List ℕ) (n i count x : ℕ) → n ≤ length ks → i < n → x ≡ data_modules (get_or ks i 0 ∷ []) → count ≡ data_modules (take i ks)
    → count + x ≡ data_modules (take (i + 1) ks)
modules_more ks n i count x l h e q =
    ap₂ ◌+◌ q e ∙ sym (ap (λ (k : ℕ). data_modules (take k ks)) (add-one i) ∙ ap data_modules (take-suc ks i 0 (omega arith))
    ∙ modules_append (take i ks) (get_or ks i 0 ∷ []))

-- no more than there are kinds
pub modules_few : (ks : List ℕ) → data_modules ks ≤ length ks
unfolding data_modules
modules_few [] = omega arith
modules_few (k ∷ ks) = by (eqb k 0) (modules_few ks)
  where
    by : (b : Bool) → data_modules ks ≤ length ks → cond b (suc (data_modules ks)) (data_modules ks) ≤ suc (length ks)
    by true h = omega arith
    by false h = omega arith
