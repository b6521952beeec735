-- The greatest byte of a square says whether all are modules. Assumes nothing.
use Rattle.general.proofs.Names.{◌≡◌, refl, sym, ap, ◌∙◌, inl, inr, ◌≢◌, Bool, true, false, List, [], ◌∷◌, ℕ, ◌+◌, ◌*◌, ◌≤◌, ◌<◌, arith, ℕ_discrete, dec_lt}
use Rattle.general.proofs.Names.{eq-eqb, ne_eqb, eqb, ltb, ltb-false, true≢false, length, get_or, get_or-eq_default}
use Rattle.marks.specs.Read.{first_refusal, unless}
use Rattle.decoding.specs.Inner.{Tells}
use Rattle.reader.specs.Inner.{GreaterOf, GreatestByte}
use Rattle.marks.proofs.Refusals.{unless_true, first_skips, first_takes}
use Rattle.marks.proofs.Modules.{modules_below, below_modules}
use Rattle.marks.specs.Inner.{are_modules}

-- the greatest of the first n bytes
pub record GreatestByteUpTo (sq : List ℕ) (n r : ℕ) : Type 0 where
  pub all : (i : ℕ) → i < n → get_or sq i 0 ≤ r
  pub some : 0 < r → (i : ℕ) × (get_or sq i 0 ≡ r)

pub greatest_start : (sq : List ℕ) → GreatestByteUpTo sq 0 0
greatest_start sq = record { all = λ i h. absurd (omega arith); some = λ h. absurd (omega arith) }

pub greatest_next : (sq : List ℕ) (n r r' : ℕ) → GreatestByteUpTo sq n r → GreaterOf r (get_or sq n 0) r' → GreatestByteUpTo sq (n + 1) r'
greatest_next sq n r r' G H = record {
  all = λ i h. elim (ℕ_discrete i n) [
    | yes e ↦ omega (arith, ap (λ (x : ℕ). get_or sq x 0) e, H.right)
    | no d ↦ omega (arith, G.all i (omega arith), H.left)
  ];
  some = λ p. elim H.one [
    | inl e ↦ (let f = G.some (omega arith) in (f.0, f.1 ∙ sym e))
    | inr e ↦ (n, sym e)
  ];
}

pub greatest_end : (sq : List ℕ) (n r : ℕ) → GreatestByteUpTo sq n r → length sq ≤ n → GreatestByte sq r
greatest_end sq n r G h = record {
  all = λ i. elim (dec_lt i n) [
    | yes l ↦ G.all i l
    | no l ↦ omega (arith, get_or-eq_default sq 0 {n = i} (omega arith))
  ];
  some = G.some;
}

pub all_modules : (sq : List ℕ) (r : ℕ) → GreatestByte sq r → r ≤ 2 → are_modules sq ≡ true
all_modules sq r G h = below_modules sq (λ i. omega (arith, G.all i))

pub not_modules : (sq : List ℕ) (r : ℕ) → GreatestByte sq r → 2 < r → are_modules sq ≡ false
not_modules sq r G h = go (are_modules sq) refl
  where
    go : (b : Bool) → are_modules sq ≡ b → b ≡ false
    go false e = refl
    go true e = (let f = G.some (omega arith) in absurd (omega (arith, modules_below sq e f.0, f.1)))

-- whether a module is unknown: it may be said that one is, and that none is where the greatest byte is 1 or 0
pub told : (sq : List ℕ) → Tells true sq
told sq = record { none = λ e. absurd (true≢false e) }

pub untold : (sq : List ℕ) (r : ℕ) → GreatestByte sq r → Tells (ltb 1 r) sq
untold sq r G = record { none = λ e i. omega (arith, G.all i, ltb-false 1 r e) }

-- ---- the refusals 2 and 3

module _ (sq : List ℕ) (side : ℕ) where
  abbrev rest : List ℕ
  rest = unless (are_modules sq) 3 ∷ []

  pub wrong_size : length sq ≢ side * side → 2 ≡ first_refusal (unless (eqb (length sq) (side * side)) 2 ∷ rest)
  wrong_size d =
      let e : unless (eqb (length sq) (side * side)) 2 ≡ 2 = simp (ne_eqb (length sq) (side * side) d) in
      sym (first_takes (unless (eqb (length sq) (side * side)) 2) rest (λ z. omega arith) ∙ e)

  sized : length sq ≡ side * side → first_refusal (unless (eqb (length sq) (side * side)) 2 ∷ rest) ≡ first_refusal rest
  sized e = first_skips (unless (eqb (length sq) (side * side)) 2) rest (simp (eq-eqb (length sq) (side * side) e))

  pub wrong_byte : length sq ≡ side * side → are_modules sq ≡ false → 3 ≡ first_refusal (unless (eqb (length sq) (side * side)) 2 ∷ rest)
  wrong_byte e f =
      let g : unless (are_modules sq) 3 ≡ 3 = ap (λ (b : Bool). unless b 3) f in
      sym (sized e ∙ first_takes (unless (are_modules sq) 3) [] (λ z. omega arith) ∙ g)

  pub right_square : length sq ≡ side * side → are_modules sq ≡ true → 0 ≡ first_refusal (unless (eqb (length sq) (side * side)) 2 ∷ rest)
  unfolding first_refusal
  right_square e f = sym (sized e ∙ first_skips (unless (are_modules sq) 3) [] (unless_true (are_modules sq) 3 f))

-- the refusal 3, by the greatest byte
pub high_byte : (sq : List ℕ) (side r : ℕ) → GreatestByte sq r → length sq ≡ side * side → 2 < r →
    3 ≡ first_refusal (unless (eqb (length sq) (side * side)) 2 ∷ unless (are_modules sq) 3 ∷ [])
high_byte sq side r G e h = wrong_byte sq side e (not_modules sq r G h)
