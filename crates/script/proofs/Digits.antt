-- Digits that are written in numeric mode are read back.
use Rattle.general.proofs.Names.{◌≡◌, refl, ◌∙◌, true, List, [], ◌∷◌, ◌++◌, append-nil, ℕ, ◌+◌, ◌-◌, ◌*◌, ◌/◌, ◌%◌, ◌^◌, ◌<◌, ◌≤◌, arith, lt-ltb, le-ltb}
use Rattle.general.proofs.Names.{ltb-true, leb-true, ltb, leb, length, get_or}
use Rattle.segments.specs.Segments.{got, before, digits, groups_of, numeric_of}
use Rattle.script.specs.Writer.{is_digit, numeric_words}
use Rattle.script.proofs.Tests.{both, small_cons}
use Rattle.general.specs.Lists.{all}

digit : (b : ℕ) → is_digit b ≡ true → (48 ≤ b) × (b < 58)
unfolding is_digit
digit b e = let h = both (leb 48 b) (ltb b 58) e in (leb-true 48 b h.0, ltb-true b 58 h.1)

module _ (a b c : ℕ) (ha : (48 ≤ a) × (a < 58)) (hb : (48 ≤ b) × (b < 58)) (hc : (48 ≤ c) × (c < 58)) where
  one : digits 1 (a - 48) ≡ a ∷ []
  unfolding digits
  one = let x : 48 + (a - 48) / 1 % 10 ≡ a = omega arith in rw x

  two : digits 2 ((a - 48) * 10 + (b - 48)) ≡ a ∷ b ∷ []
  unfolding digits
  two =
      let x : 48 + ((a - 48) * 10 + (b - 48)) / 10 % 10 ≡ a = omega arith in
      let y : 48 + ((a - 48) * 10 + (b - 48)) / 1 % 10 ≡ b = omega arith in
      rw (x, y)

  three : digits 3 ((a - 48) * 100 + (b - 48) * 10 + (c - 48)) ≡ a ∷ b ∷ c ∷ []
  unfolding digits
  three =
      let x : 48 + ((a - 48) * 100 + (b - 48) * 10 + (c - 48)) / 100 % 10 ≡ a = omega arith in
      let q : ((a - 48) * 100 + (b - 48) * 10 + (c - 48)) / 10 ≡ (a - 48) * 10 + (b - 48) = omega arith in
      let y : 48 + ((a - 48) * 100 + (b - 48) * 10 + (c - 48)) / 10 % 10 ≡ b = rw q (omega arith) in
      let z : 48 + ((a - 48) * 100 + (b - 48) * 10 + (c - 48)) / 1 % 10 ≡ c = omega arith in
      rw (x, y, z)

-- one more group, and the last
more : (p w : ℕ) (ws : List ℕ) → w < 1000 → groups_of p (w ∷ ws) ≡ before (digits 3 p) (groups_of w ws)
unfolding groups_of
more p w ws h = rw (lt-ltb w 1000 h)

last : (p k : ℕ) (ws : List ℕ) → k < 4 → 0 < k → p < 10 ^ k → groups_of p ((1020 + k) ∷ ws) ≡ got (digits k p) 1
unfolding groups_of
last p k ws h g l =
    let e : 1020 + k - 1020 ≡ k = omega arith in
    rw (le-ltb (1020 + k) 1000 (omega arith), lt-ltb 1020 (1020 + k) (omega arith), e, lt-ltb p (10 ^ k) l)

-- the digits at the front
heads : (a : ℕ) (ds : List ℕ) → all is_digit (a ∷ ds) ≡ true → ((48 ≤ a) × (a < 58)) × (all is_digit ds ≡ true)
heads a ds t = let h = both (is_digit a) (all is_digit ds) t in (digit a h.0, h.1)

groups_back : (p : ℕ) (ds ws : List ℕ) → p < 1000 → all is_digit ds ≡ true
    → groups_of p (numeric_words ds ++ ws) ≡ got (digits 3 p ++ ds) (length (numeric_words ds))
unfolding numeric_words
groups_back p [] ws h t = last p 3 ws (omega arith) (omega arith) h ∙ rw append-nil
groups_back p (a ∷ []) ws h t =
    let x = (heads a [] t).0 in
    more p (a - 48) (1021 ∷ ws) (omega arith) ∙ rw (last (a - 48) 1 ws (omega arith) (omega arith) (omega arith), one a a a x x x)
groups_back p (a ∷ b ∷ []) ws h t =
    let t₁ = heads a (b ∷ []) t in
    let x = t₁.0 in
    let y = (heads b [] t₁.1).0 in
    let v : ℕ = (a - 48) * 10 + (b - 48) in
    more p v (1022 ∷ ws) (omega arith) ∙ rw (last v 2 ws (omega arith) (omega arith) (omega arith), two a b b x y y)
groups_back p (a ∷ b ∷ c ∷ ds) ws h t =
    let t₁ = heads a (b ∷ c ∷ ds) t in
    let t₂ = heads b (c ∷ ds) t₁.1 in
    let t₃ = heads c ds t₂.1 in
    let x = t₁.0 in
    let y = t₂.0 in
    let z = t₃.0 in
    let v : ℕ = (a - 48) * 100 + (b - 48) * 10 + (c - 48) in
    more p v (numeric_words ds ++ ws) (omega arith) ∙ rw (groups_back v ds ws (omega arith) t₃.1, three a b c x y z)

pub numeric_back : (ds ws : List ℕ) → 0 < length ds → all is_digit ds ≡ true → numeric_of (numeric_words ds ++ ws) ≡ got ds (length (numeric_words ds))
unfolding numeric_words numeric_of
numeric_back [] ws p t = absurd (omega arith)
numeric_back (a ∷ []) ws p t =
    let x = (heads a [] t).0 in
    rw (lt-ltb (a - 48) 1000 (omega arith), last (a - 48) 1 ws (omega arith) (omega arith) (omega arith), one a a a x x x)
numeric_back (a ∷ b ∷ []) ws p t =
    let t₁ = heads a (b ∷ []) t in
    let x = t₁.0 in
    let y = (heads b [] t₁.1).0 in
    let v : ℕ = (a - 48) * 10 + (b - 48) in
    rw (lt-ltb v 1000 (omega arith), last v 2 ws (omega arith) (omega arith) (omega arith), two a b b x y y)
numeric_back (a ∷ b ∷ c ∷ ds) ws p t =
    let t₁ = heads a (b ∷ c ∷ ds) t in
    let t₂ = heads b (c ∷ ds) t₁.1 in
    let t₃ = heads c ds t₂.1 in
    let x = t₁.0 in
    let y = t₂.0 in
    let z = t₃.0 in
    let v : ℕ = (a - 48) * 100 + (b - 48) * 10 + (c - 48) in
    rw (lt-ltb v 1000 (omega arith), groups_back v ds ws (omega arith) t₃.1, three a b c x y z)

pub numeric_small : (ds : List ℕ) → all is_digit ds ≡ true → (i : ℕ) → get_or (numeric_words ds) i 0 < 1024
unfolding numeric_words
numeric_small [] t = small_cons 1023 1024 [] (omega arith) (λ i. omega arith)
numeric_small (a ∷ []) t =
    let x = (heads a [] t).0 in
    small_cons (a - 48) 1024 (1021 ∷ []) (omega arith) (small_cons 1021 1024 [] (omega arith) (λ i. omega arith))
numeric_small (a ∷ b ∷ []) t =
    let t₁ = heads a (b ∷ []) t in
    let x = t₁.0 in
    let y = (heads b [] t₁.1).0 in
    small_cons ((a - 48) * 10 + (b - 48)) 1024 (1022 ∷ []) (omega arith) (small_cons 1022 1024 [] (omega arith) (λ i. omega arith))
numeric_small (a ∷ b ∷ c ∷ ds) t =
    let t₁ = heads a (b ∷ c ∷ ds) t in
    let t₂ = heads b (c ∷ ds) t₁.1 in
    let t₃ = heads c ds t₂.1 in
    let x = t₁.0 in
    let y = t₂.0 in
    let z = t₃.0 in
    small_cons ((a - 48) * 100 + (b - 48) * 10 + (c - 48)) 1024 (numeric_words ds) (omega arith) (numeric_small ds t₃.1)

pub numeric_length : (ds : List ℕ) → length (numeric_words ds) ≡ 1 + (length ds + 2) / 3
unfolding numeric_words
numeric_length [] = refl
numeric_length (a ∷ []) = refl
numeric_length (a ∷ b ∷ []) = refl
numeric_length (a ∷ b ∷ c ∷ ds) = let h = numeric_length ds in omega arith
