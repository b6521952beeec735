-- Interleave: no stream place is reached twice, so that the codeword at each place is known by its number in the square.
use Rattle.general.proofs.Names.{◌≡◌, refl, sym, ◌∙◌, subst, ◌⊎◌, inl, inr, List, [], ◌∷◌, ◌++◌, ℕ, zero, suc, ◌+◌, ◌*◌, ◌/◌, ◌%◌, ◌-◌, ◌<◌, ◌≤◌, arith}
use Rattle.general.proofs.Names.{length, get_or, set, replicate, length-set, length-replicate, get_or-set_same, get_or-set_other}
use Rattle.bits.specs.Bits.{store_at}
use Rattle.codewords.specs.Codewords.{order, to_stream}
use Rattle.codewords.specs.Inner.{steps, starts}
use Rattle.codewords.proofs.Interleave.{Among, order_is, on_order, length_order}

-- no place stands twice in a list
abbrev Apart : List ℕ → Type 0
Apart [] = Unit {0}
Apart (p ∷ ps) = (Among p ps → ⊥) × Apart ps

among_either : (p : ℕ) (ps qs : List ℕ) → Among p (ps ++ qs) → Among p ps ⊎ Among p qs
among_either p [] qs a = inr a
among_either p (x ∷ ps) qs (inl e) = inl (inl e)
among_either p (x ∷ ps) qs (inr a) = elim (among_either p ps qs a) [
  | inl b ↦ inl (inr b)
  | inr b ↦ inr b
]

apart_append : (ps qs : List ℕ) → Apart ps → Apart qs → ((p : ℕ) → Among p ps → Among p qs → ⊥) → Apart (ps ++ qs)
apart_append [] qs A B n = B
apart_append (p ∷ ps) qs A B n = (alone, apart_append ps qs A.1 B (λ q a b. n q (inr a) b))
  where
    alone : Among p (ps ++ qs) → ⊥
    alone a = elim (among_either p ps qs a) [
      | inl b ↦ A.0 b
      | inr b ↦ n p (inl refl) b
    ]

-- the places of one start, and of those from one on
step_is : (p k q : ℕ) → Among q (steps p k) → (i : ℕ) × (i < k) × (q ≡ p + 13 * i)
unfolding steps
step_is p zero q a = absurd a
step_is p (suc k) q (inl e) = (0, omega arith, omega arith)
step_is p (suc k) q (inr a) = let x = step_is (p + 13) k q a in (suc x.0, omega arith, omega arith)

steps_apart : (p k : ℕ) → Apart (steps p k)
unfolding steps
steps_apart p zero = tt
steps_apart p (suc k) = (λ a. let x = step_is (p + 13) k p a in omega arith, steps_apart (p + 13) k)

start_is : (n s k q : ℕ) → s + k ≤ 13 → Among q (starts n s k) → (s ≤ q % 13) × (q < n)
unfolding starts
start_is n s zero q h a = absurd a
start_is n s (suc k) q h a = elim (among_either q (steps s ((n + 12 - s) / 13)) (starts n (suc s) k) a) [
  | inl b ↦ (let x = step_is s ((n + 12 - s) / 13) q b in (omega arith, omega arith))
  | inr b ↦ (let x = start_is n (suc s) k q (omega arith) b in (omega arith, x.1))
]

starts_apart : (n s k : ℕ) → s + k ≤ 13 → Apart (starts n s k)
unfolding starts
starts_apart n s zero h = tt
starts_apart n s (suc k) h =
    apart_append (steps s ((n + 12 - s) / 13)) (starts n (suc s) k) (steps_apart s _) (starts_apart n (suc s) k (omega arith))
    (λ q a b. let x = step_is s ((n + 12 - s) / 13) q a in omega (arith, (start_is n (suc s) k q (omega arith) b).0))

order_apart : (n : ℕ) → Apart (order n)
order_apart n = rw order_is (starts_apart n 0 13 (omega arith))

-- ---- by number

numbered : (ps : List ℕ) (n : ℕ) → n < length ps → Among (get_or ps n 0) ps
numbered [] n h = absurd (omega arith)
numbered (p ∷ ps) zero h = inl refl
numbered (p ∷ ps) (suc n) h = inr (numbered ps n (omega arith))

number : (ps : List ℕ) (p : ℕ) → Among p ps → (n : ℕ) × (n < length ps) × (get_or ps n 0 ≡ p)
number [] p a = absurd a
number (q ∷ ps) p (inl e) = (0, omega arith, sym e)
number (q ∷ ps) p (inr a) = let x = number ps p a in (suc x.0, omega arith, x.2)

pub place_lt : (total n : ℕ) → n < total → get_or (order total) n 0 < total
place_lt total n h =
    let a = numbered (order total) n (omega (arith, length_order total)) in
    (start_is total 0 13 (get_or (order total) n 0) (omega arith) (subst (Among (get_or (order total) n 0)) (order_is total) a)).1

-- each stream place is that of a codeword
pub place_of : (total q : ℕ) → q < total → (n : ℕ) × (n < total) × (get_or (order total) n 0 ≡ q)
place_of total q h = let x = number (order total) q (on_order total q h) in (x.0, omega (arith, length_order total), x.2)

left : (ps cs s : List ℕ) (p : ℕ) → (Among p ps → ⊥) → get_or (store_at ps cs s) p 0 ≡ get_or s p 0
unfolding store_at
left [] cs s p n = refl
left (q ∷ ps) [] s p n = refl
left (q ∷ ps) (c ∷ cs) s p n = left ps cs (set s q c) p (λ a. n (inr a)) ∙ get_or-set_other s q p c 0 (λ z. n (inl z))

stored : (ps cs s : List ℕ) (n : ℕ) → Apart ps → n < length ps → n < length cs → get_or ps n 0 < length s
    → get_or (store_at ps cs s) (get_or ps n 0) 0 ≡ get_or cs n 0
unfolding store_at
stored [] cs s n A h l r = absurd (omega arith)
stored (p ∷ ps) [] s n A h l r = absurd (omega arith)
stored (p ∷ ps) (c ∷ cs) s zero A h l r = left ps cs (set s p c) p A.0 ∙ get_or-set_same s p c 0 r
stored (p ∷ ps) (c ∷ cs) s (suc n) A h l r = stored ps cs (set s p c) n A.1 (omega arith) (omega arith) (omega (arith, length-set s p c))

-- codeword n of a square is the one at its stream place
pub codeword_at : (cs : List ℕ) (n : ℕ) → n < length cs → get_or (to_stream cs) (get_or (order (length cs)) n 0) 0 ≡ get_or cs n 0
unfolding to_stream
codeword_at cs n h =
    stored (order (length cs)) cs (replicate (length cs) 0) n (order_apart (length cs)) (omega (arith, length_order (length cs))) h
    (omega (arith, place_lt (length cs) n h, length-replicate {A = ℕ} (length cs) 0))
