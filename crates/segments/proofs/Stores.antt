-- Bytes stored one after the other are a list stored at once.
use Rattle.general.proofs.Names.{◌≡◌, ◌∙◌, List, [], ◌∷◌, ℕ, suc, ◌+◌, arith, set, sets}

pub one_more : (o x y xs : List ℕ) (n m a : ℕ) → m ≡ n + 1 → x ≡ set o n a → y ≡ sets x m xs → y ≡ sets o n (a ∷ xs)
one_more o x y xs n m a h p q = let e : n + 1 ≡ suc n = omega arith in q ∙ rw (p, h, e)

pub two_more : (o x y xs : List ℕ) (n m a b : ℕ) → m ≡ n + 2 → x ≡ sets o n (a ∷ b ∷ []) → y ≡ sets x m xs
    → y ≡ sets o n (a ∷ b ∷ xs)
two_more o x y xs n m a b h p q = let e : n + 2 ≡ suc (suc n) = omega arith in q ∙ rw (p, h, e)
