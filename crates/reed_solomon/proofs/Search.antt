-- What a search over all words of a length finds. Assumes nothing.
use Rattle.general.proofs.Names.{◌≡◌, refl, ap, ◌∙◌, sym, subst, ◌⊎◌, inl, inr, Bool, true, false, cond, Option, none, some, List, [], ◌∷◌, ◌++◌, map, ℕ}
use Rattle.general.proofs.Names.{zero, suc, ◌<◌, arith, le_of_suc-le-suc, eq-or-lt_of_le, T, length, get_or}
use Rattle.reed_solomon.specs.Block.{all_words, first_that}
use Rattle.general.specs.Lists.{each}

-- a list of bytes
abbrev pub Bytes : List ℕ → Type 0
Bytes xs = (i : ℕ) → get_or xs i 0 < 256

-- ---- all words

abbrev In : List ℕ → List (List ℕ) → Type 0
In c [] = ⊥
In c (w ∷ ws) = (c ≡ w) ⊎ In c ws

in_left : (c : List ℕ) (us vs : List (List ℕ)) → In c us → In c (us ++ vs)
in_left c [] vs h = absurd h
in_left c (u ∷ us) vs (inl e) = inl e
in_left c (u ∷ us) vs (inr h) = inr (in_left c us vs h)

in_right : (c : List ℕ) (us vs : List (List ℕ)) → In c vs → In c (us ++ vs)
in_right c [] vs h = h
in_right c (u ∷ us) vs h = inr (in_right c us vs h)

in_either : (c : List ℕ) (us vs : List (List ℕ)) → In c (us ++ vs) → In c us ⊎ In c vs
in_either c [] vs h = inr h
in_either c (u ∷ us) vs (inl e) = inl (inl e)
in_either c (u ∷ us) vs (inr h) = elim (in_either c us vs h) [ inl a ↦ inl (inr a) | inr b ↦ inr b ]

in_map : (b : ℕ) (c : List ℕ) (ws : List (List ℕ)) → In c ws → In (b ∷ c) (map (λ w. b ∷ w) ws)
in_map b c [] h = h
in_map b c (w ∷ ws) (inl e) = inl (ap (λ (x : List ℕ). b ∷ x) e)
in_map b c (w ∷ ws) (inr h) = inr (in_map b c ws h)

of_map : (b : ℕ) (c : List ℕ) (ws : List (List ℕ)) → In c (map (λ w. b ∷ w) ws) → (d : List ℕ) × (c ≡ b ∷ d) × In d ws
of_map b c [] h = absurd h
of_map b c (w ∷ ws) (inl e) = (w, e, inl refl)
of_map b c (w ∷ ws) (inr h) = let r = of_map b c ws h in (r.0, r.1, inr r.2)

-- each byte below n in front of each word
abbrev led : ℕ → List (List ℕ) → List (List ℕ)
led n ws = each n (λ b. map (λ w. b ∷ w) ws)

in_led : (b n : ℕ) (c : List ℕ) (ws : List (List ℕ)) → b < n → In c ws → In (b ∷ c) (led n ws)
unfolding each
in_led b zero c ws h i = absurd (omega arith)
in_led b (suc n) c ws h i = elim (eq-or-lt_of_le (le_of_suc-le-suc h)) [
  | inl e ↦ in_right (b ∷ c) (led n ws) (map (λ w. n ∷ w) ws) (subst (λ (x : ℕ). In (x ∷ c) (map (λ w. n ∷ w) ws)) (sym e) (in_map n c ws i))
  | inr l ↦ in_left (b ∷ c) (led n ws) (map (λ w. n ∷ w) ws) (in_led b n c ws l i)
]

of_led : (n : ℕ) (c : List ℕ) (ws : List (List ℕ)) → In c (led n ws) → (b : ℕ) × (d : List ℕ) × (c ≡ b ∷ d) × (b < n) × In d ws
unfolding each
of_led zero c ws h = absurd h
of_led (suc n) c ws h = elim (in_either c (led n ws) (map (λ w. n ∷ w) ws) h) [
  | inl a ↦ (let r = of_led n c ws a in (r.0, r.1, r.2, omega (arith, r.3), r.4))
  | inr a ↦ (let r = of_map n c ws a in (n, r.0, r.1, omega arith, r.2))
]

in_all : (c : List ℕ) → Bytes c → In c (all_words (length c))
unfolding all_words
in_all [] h = inl refl
in_all (b ∷ c) h = in_led b 256 c (all_words (length c)) (h 0) (in_all c (λ i. h (suc i)))

of_all : (n : ℕ) (c : List ℕ) → In c (all_words n) → (length c ≡ n) × Bytes c
unfolding all_words
of_all zero c (inl e) = (ap length e, λ i. omega (arith, ap (λ (x : List ℕ). get_or x i 0) e))
of_all zero c (inr h) = absurd h
of_all (suc n) c h =
    let r = of_led 256 c (all_words n) h in
    let s = of_all n r.1 r.4 in
    (ap length r.2 ∙ ap suc s.0, λ i. subst (λ (x : List ℕ). get_or x i 0 < 256) (sym r.2) (small r.0 r.1 r.3 s.1 i))
  where
    small : (b : ℕ) (d : List ℕ) → b < 256 → Bytes d → Bytes (b ∷ d)
    small b d p q zero = p
    small b d p q (suc i) = q i

-- ---- the first that passes

first_some : (t : List ℕ → Bool) (ws : List (List ℕ)) (c : List ℕ) → first_that t ws ≡ some c → T (t c) × In c ws
unfolding first_that
first_some t [] c e = absurd (let z : ◌≡◌ {A = ℕ} 0 1 = cc in omega arith)
first_some t (w ∷ ws) c e = go (t w) refl e (first_some t ws c)
  where
    go : (b : Bool) → t w ≡ b → cond b (some w) (first_that t ws) ≡ some c → (first_that t ws ≡ some c → T (t c) × In c ws) → T (t c) × In c (w ∷ ws)
    go true q g f = let z : w ≡ c = cc in (subst (λ (x : List ℕ). T (t x)) z (subst T (sym q) tt), inl (sym z))
    go false q g f = let r = f g in (r.0, inr r.1)

first_none : (t : List ℕ → Bool) (ws : List (List ℕ)) (c : List ℕ) → first_that t ws ≡ none → In c ws → T (t c) → ⊥
unfolding first_that
first_none t [] c e h p = h
first_none t (w ∷ ws) c e h p = go (t w) refl e h (first_none t ws c)
  where
    go : (b : Bool) → t w ≡ b → cond b (some w) (first_that t ws) ≡ none → In c (w ∷ ws) → (first_that t ws ≡ none → In c ws → T (t c) → ⊥) → ⊥
    go true q g i f = let z : ◌≡◌ {A = ℕ} 0 1 = cc in omega arith
    go false q g (inl z) f = subst T (ap t z ∙ q) p
    go false q g (inr i) f = f g i p

-- a word of n bytes that passes
pub record Passing (t : List ℕ → Bool) (n : ℕ) (c : List ℕ) : Type 0 where
  pub test : T (t c)
  pub size : length c ≡ n
  pub bytes : Bytes c

module _ (t : List ℕ → Bool) (n : ℕ) where
  pub found_passing : (c : List ℕ) → first_that t (all_words n) ≡ some c → Passing t n c
  found_passing c e =
      let r = first_some t (all_words n) c e in
      let s = of_all n c r.1 in
      record { test = r.0; size = s.0; bytes = s.1 }

  none_passing : first_that t (all_words n) ≡ none → (c : List ℕ) → Passing t n c → ⊥
  none_passing e c p =
      first_none t (all_words n) c e (subst (λ (m : ℕ). In c (all_words m)) p.size (in_all c p.bytes)) p.test

  -- nothing passes: nothing is found
  pub passing_none : ((c : List ℕ) → Passing t n c → ⊥) → first_that t (all_words n) ≡ none
  passing_none h = go (first_that t (all_words n)) refl
    where
      go : (o : Option (List ℕ)) → first_that t (all_words n) ≡ o → o ≡ none
      go none e = refl
      go (some c) e = absurd (h c (found_passing c e))

  -- one passes and no other does: it is found
  pub passing_some : (c : List ℕ) → Passing t n c → ((d : List ℕ) → Passing t n d → d ≡ c) → first_that t (all_words n) ≡ some c
  passing_some c p u = go (first_that t (all_words n)) refl
    where
      go : (o : Option (List ℕ)) → first_that t (all_words n) ≡ o → o ≡ some c
      go none e = absurd (none_passing e c p)
      go (some d) e = ap some (u d (found_passing d e))
