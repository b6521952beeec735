-- What inner functions say of each other. Nobody has to believe it: the contracts of the operations do not cite it.
use Rattle.std.specs.Prelude.{◌≡◌, Bool, cond, List, ℕ, zero, suc, ◌+◌, ◌-◌, ◌*◌, ◌%◌, ◌≤◌, ◌<◌, eqb, length}
use Rattle.field.specs.Field.{power, mul, below}
use Rattle.reed_solomon.specs.Sum.{◌⊕◌, seq, sum, horner, degree, syndrome}
use Rattle.reed_solomon.specs.Register.{Generates, Tail, moved, State}
use Rattle.reed_solomon.specs.Block.{eval_from, eval}
use Rattle.reed_solomon.specs.Places.{locator_at, term_at}

-- ---- syndromes

-- a syndrome with more bytes of the block behind those so far
abbrev pub advanced : ℕ → ℕ → List ℕ → ℕ → ℕ → ℕ
advanced poly first bytes j x = eval_from poly (power poly (first + j)) x bytes

-- r is n, or less by a multiple of 255
pub record Reduced (n r : ℕ) : Type 0 where
  pub times : ℕ
  pub is : n ≡ 255 * times + r

-- s holds the syndromes of a block
pub record Syndromes (poly first parity : ℕ) (block s : List ℕ) : Type 0 where
  pub size : length s ≡ 256
  pub bytes : (j : ℕ) → seq s j < 256
  pub are : (j : ℕ) → j < parity → seq s j ≡ eval poly (power poly (first + j)) block

-- all of the first n are zero
unfoldable pub is_clean : ℕ → List ℕ → Bool
is_clean n s = below n (λ j. eqb (seq s j) 0)

-- ---- the locator

-- f plus q times g moved up by m places, where x stands at the place i of f
abbrev pub added : ℕ → ℕ → ℕ → List ℕ → ℕ → ℕ → ℕ
added poly q m g i x = x ⊕ mul poly q (moved m (seq g) i)

abbrev pub copied : List ℕ → ℕ → ℕ → ℕ
copied src i x = seq src i

-- after r values of s: `State` on arrays, and no register that makes them is shorter
pub record Register (poly : ℕ) (s : List ℕ) (r : ℕ) (f g : List ℕ) (l rg b : ℕ) : Type 0 where
  pub state : State poly (seq s) r l (seq f) rg (rg - l) (seq g) b
  pub unit : seq f 0 ≡ 1
  pub bytes : (i : ℕ) → seq f i < 256
  pub size_f : length f ≡ 256
  pub size_g : length g ≡ 256
  pub pos : 0 < b
  pub within : l ≤ r
  pub behind : l ≤ rg
  pub least : (t : ℕ → ℕ) (e : ℕ) → Generates poly (seq s) r t e → (t 0 % 256 ≡ 0 → ⊥) → l ≤ e

-- the shortest register that makes the first n values of s
pub record Shortest (poly : ℕ) (s : List ℕ) (n : ℕ) (f : List ℕ) (l : ℕ) : Type 0 where
  pub makes : Generates poly (seq s) n (seq f) l
  pub tail : Tail (seq f) l
  pub unit : seq f 0 ≡ 1
  pub bytes : (i : ℕ) → seq f i < 256
  pub size : length f ≡ 256
  pub within : l ≤ n
  pub least : (t : ℕ → ℕ) (e : ℕ) → Generates poly (seq s) n t e → (t 0 % 256 ≡ 0 → ⊥) → l ≤ e

-- ---- its roots

-- the terms of the locator f of length l, whose coefficients are bytes, at the place of degree d
pub record TermsAt (poly : ℕ) (f : List ℕ) (l d : ℕ) (terms : List ℕ) : Type 0 where
  pub bytes : (i : ℕ) → seq f i < 256
  pub size : length terms ≡ 256
  pub are : (i : ℕ) → i ≤ l → seq terms i ≡ term_at poly f l d i

-- its values at the place of degree d and at the next three
pub record FourValues (poly : ℕ) (f : List ℕ) (l d v₀ v₁ v₂ v₃ : ℕ) : Type 0 where
  pub at : v₀ ≡ locator_at poly f l d
  pub one : v₁ ≡ locator_at poly f l (d + 1)
  pub two : v₂ ≡ locator_at poly f l (d + 2)
  pub three : v₃ ≡ locator_at poly f l (d + 3)

-- terms at one place carried on, of whatever locator and place they are: the locator's values there and at the next three places, and its terms
-- at the place behind these
abbrev pub CarriedOn : ℕ → ℕ → List ℕ → ℕ → ℕ → ℕ → ℕ → List ℕ → Type 0
CarriedOn poly l terms v₀ v₁ v₂ v₃ terms' =
    (f : List ℕ) (d : ℕ) → TermsAt poly f l d terms → FourValues poly f l d v₀ v₁ v₂ v₃ × TermsAt poly f l (d + 4) terms'

-- the values of the locator f of length l at the degrees below n
pub record ValuesAt (poly : ℕ) (f : List ℕ) (l n : ℕ) (e : List ℕ) : Type 0 where
  pub size : length e ≡ 256
  pub are : (d : ℕ) → d < n → seq e d ≡ locator_at poly f l d

-- how many of the first n values of f are zero
unfoldable pub zeros_of : ℕ → (ℕ → ℕ) → ℕ
zeros_of zero f = 0
zeros_of (suc n) f = zeros_of n f + cond (eqb (f n) 0) 1 0

-- s are the syndromes of the errors err of n places, and h of length l locates them: it is zero at each, and has no fewer zeros than its length
pub record Locates (poly first parity n : ℕ) (err : ℕ → ℕ) (s h : List ℕ) (l : ℕ) : Type 0 where
  pub of : (j : ℕ) → j < parity → seq s j ≡ syndrome poly first n err j
  pub err_lt : (i : ℕ) → err i < 256
  pub unit : seq h 0 ≡ 1
  pub bytes : (i : ℕ) → seq h i < 256
  pub within : l ≤ parity
  pub root : (k : ℕ) → k < n → (err k ≡ 0 → ⊥) → locator_at poly h l (degree n k) ≡ 0
  pub many : l ≤ zeros_of n (locator_at poly h l)

-- ---- the errors

-- the locator divided by x + α^d
abbrev pub divided_at : ℕ → List ℕ → ℕ → ℕ → ℕ
divided_at poly f d j = horner poly (seq f) (power poly d) (suc j)

-- one step of Horner's rule at α^d
abbrev pub stepped : ℕ → ℕ → ℕ → ℕ → ℕ
stepped poly d a x = mul poly x (power poly d) ⊕ a

-- the division after two coefficients more
pub record SteppedTwo (poly d a b s t m num den m' num' den' : ℕ) : Type 0 where
  pub next : m' ≡ stepped poly d b (stepped poly d a m)
  pub over : num' ≡ (num ⊕ mul poly (stepped poly d a m) s) ⊕ mul poly (stepped poly d b (stepped poly d a m)) t
  pub value : den' ≡ stepped poly d (stepped poly d b (stepped poly d a m)) (stepped poly d (stepped poly d a m) den)

-- over the syndromes it gives this, and at α^d itself that
unfoldable pub numerator : ℕ → List ℕ → List ℕ → ℕ → ℕ → ℕ
numerator poly s f l d = sum (λ j. mul poly (divided_at poly f d j) (seq s (degree l j))) l

unfoldable pub denominator : ℕ → List ℕ → ℕ → ℕ → ℕ
denominator poly f l d = horner poly (divided_at poly f d) (power poly d) l

-- y is the error at degree d if the locator is zero there: its weight in the first syndrome is the numerator by the denominator, or 0
pub record Magnitude (poly first : ℕ) (s f : List ℕ) (l d y : ℕ) : Type 0 where
  pub byte : y < 256
  pub is : 0 < denominator poly f l d → mul poly (mul poly y (power poly (d * first))) (denominator poly f l d) ≡ numerator poly s f l d
  pub none : denominator poly f l d ≡ 0 → y ≡ 0

-- the error at degree d if the locator's value is zero there, and 0 if not
pub record ErrorAt (poly first : ℕ) (s f : List ℕ) (l d value y : ℕ) : Type 0 where
  pub some : value ≡ 0 → Magnitude poly first s f l d y
  pub none : 0 < value → y ≡ 0

-- the locator's values e at the degrees below n replaced by the errors there
pub record Errors (poly first : ℕ) (s f : List ℕ) (l n : ℕ) (e e' : List ℕ) : Type 0 where
  pub size : length e' ≡ length e
  pub done : (d : ℕ) → d < n → ErrorAt poly first s f l d (seq e d) (seq e' d)
  pub rest : (d : ℕ) → n ≤ d → seq e' d ≡ seq e d

-- a syndrome with the error y at degree d taken off
abbrev pub without : ℕ → ℕ → ℕ → ℕ → ℕ → ℕ → ℕ
without poly first y d j x = x ⊕ mul poly y (power poly (d * (first + j)))

-- a syndrome with the errors at the first k of n places taken off
abbrev pub without_all : ℕ → ℕ → ℕ → List ℕ → ℕ → ℕ → ℕ → ℕ
without_all poly first n e k j x = x ⊕ sum (λ i. mul poly (seq e (degree n i)) (power poly (degree n i * (first + j)))) k

-- the byte at the place i with its error added
abbrev pub repaired : ℕ → List ℕ → ℕ → ℕ → ℕ
repaired n e i x = x ⊕ seq e (degree n i)
