-- What the writer's tests say.
use Rattle.general.proofs.Names.{◌≡◌, refl, subst, Bool, true, false, not, ◌&&◌, ◌||◌, List, [], ◌∷◌, ℕ, zero, suc, ◌<◌, ltb-true, eqb-true, T}
use Rattle.general.proofs.Names.{ltb, eqb, get_or}
use mathlib.Core.Bool.{or_comm}
use Rattle.segments.specs.Segments.{char_of, high_of, low_of, region_size, first_byte, second_byte}
use Rattle.script.specs.Writer.{code_of, in_subset, in_text, pair_code, in_region, in_regions, double_code, in_double, same}

pub false_true : false ≡ true → ⊥
false_true z = subst (λ (t : Bool). T (not t)) z tt

pub both : (a b : Bool) → (a && b) ≡ true → (a ≡ true) × (b ≡ true)
both true b e = (refl, e)
both false b e = absurd (false_true e)

-- one of two is this or the other one
pub either_is : (p : Bool → Bool) (f : Bool) → (p true || p false) ≡ (p f || p (not f))
either_is p true = refl
either_is p false = or_comm (p true) (p false)

-- a subset that has a byte
pub subset_has : (f : Bool) (b : ℕ) → in_subset f b ≡ true → (code_of f b < 62) × (char_of f (code_of f b) ≡ b)
unfolding in_subset
subset_has f b e =
    let h = both (ltb (code_of f b) 62) (eqb (char_of f (code_of f b)) b) e in
    (ltb-true (code_of f b) 62 h.0, eqb-true (char_of f (code_of f b)) b h.1)

pub other_subset : (f : Bool) (b : ℕ) → in_text b ≡ true → in_subset f b ≡ false → in_subset (not f) b ≡ true
unfolding in_text
other_subset f b t e = rw (either_is (λ g. in_subset g b) f, e) at t

-- a code below n whose two bytes are a and b
pair_has : (c n x a y b : ℕ) → (ltb c n && (eqb x a && eqb y b)) ≡ true → (c < n) × (x ≡ a) × (y ≡ b)
pair_has c n x a y b e =
    let h = both (ltb c n) (eqb x a && eqb y b) e in
    let g = both (eqb x a) (eqb y b) h.1 in
    (ltb-true c n h.0, eqb-true x a g.0, eqb-true y b g.1)

-- a region that has a pair
pub region_has : (f : Bool) (a b : ℕ) → in_region f a b ≡ true
    → (pair_code f a b < region_size f) × (high_of f (pair_code f a b) ≡ a) × (low_of f (pair_code f a b) ≡ b)
unfolding in_region
region_has f a b e = pair_has (pair_code f a b) (region_size f) (high_of f (pair_code f a b)) a (low_of f (pair_code f a b)) b e

pub other_region : (f : Bool) (a b : ℕ) → in_regions a b ≡ true → in_region f a b ≡ false → in_region (not f) a b ≡ true
unfolding in_regions
other_region f a b t e = rw (either_is (λ g. in_region g a b) f, e) at t

-- the two-byte mode has a pair
pub double_has : (a b : ℕ) → in_double a b ≡ true → (double_code a b < 23940) × (first_byte (double_code a b) ≡ a) × (second_byte (double_code a b) ≡ b)
unfolding in_double
double_has a b e = pair_has (double_code a b) 23940 (first_byte (double_code a b)) a (second_byte (double_code a b)) b e

pub same_is : (xs ys : List ℕ) → same xs ys ≡ true → xs ≡ ys
unfolding same
same_is [] [] e = refl
same_is [] (y ∷ ys) e = absurd (false_true e)
same_is (x ∷ xs) [] e = absurd (false_true e)
same_is (x ∷ xs) (y ∷ ys) e =
    let h = both (eqb x y) (same xs ys) e in
    rw (eqb-true x y h.0, same_is xs ys h.1)

-- numbers that are all small
pub small_cons : (v n : ℕ) (vs : List ℕ) → v < n → ((i : ℕ) → get_or vs i 0 < n) → (i : ℕ) → get_or (v ∷ vs) i 0 < n
small_cons v n vs h g zero = h
small_cons v n vs h g (suc i) = g i
