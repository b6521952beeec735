-- SPECIFICATION 3.1, 3.2: GF(256), its polynomial a parameter, α = 2. An element is a byte, a number below 256, and the sum of two is
-- `bit_xor`.
use Rattle.std.specs.Prelude.{Bool, true, false, cond, ◌&&◌, List, [], ◌∷◌, ℕ, zero, suc, ◌+◌, ◌*◌, ◌%◌, leb, ltb, eqb, get_or}
use Rattle.std.specs.Int.Bits.{bit_xor}

-- x times α: moved up by one bit, and the polynomial added where that leaves the byte
unfoldable pub times_alpha : ℕ → ℕ → ℕ
times_alpha poly x = cond (ltb (x * 2) 256) (x * 2) (bit_xor (x * 2) poly)

-- x times α^n
unfoldable pub raised : ℕ → ℕ → ℕ → ℕ
raised poly zero x = x
raised poly (suc n) x = times_alpha poly (raised poly n x)

-- α^n
abbrev pub power : ℕ → ℕ → ℕ
power poly n = raised poly n 1

-- x, x times α, x times α^2, ..: n of them
unfoldable pub powers : ℕ → ℕ → ℕ → List ℕ
powers poly zero x = []
powers poly (suc n) x = x ∷ powers poly n (times_alpha poly x)

-- the place at which b stands first; the length where it stands nowhere
unfoldable pub find : ℕ → List ℕ → ℕ
find b [] = zero
find b (x ∷ xs) = elim (eqb b x) [ true ↦ zero | false ↦ suc (find b xs) ]

-- the logarithm of b: the least n with α^n = b
unfoldable pub log : ℕ → ℕ → ℕ
log poly b = find b (powers poly 255 1)

-- the product of two bytes: zero where one of them is, and else α to the sum of their logarithms
unfoldable pub times : ℕ → ℕ → ℕ → ℕ
times poly zero b = zero
times poly (suc a) zero = zero
times poly (suc a) (suc b) = power poly (log poly (suc a) + log poly (suc b))

-- the product of any two numbers is that of their low bytes
unfoldable pub mul : ℕ → ℕ → ℕ → ℕ
mul poly a b = times poly (a % 256) (b % 256)

-- f holds of each number below n
unfoldable pub below : ℕ → (ℕ → Bool) → Bool
below zero f = true
below (suc n) f = f n && below n f

-- each of 1 to 255 is among ps
unfoldable pub is_onto : List ℕ → Bool
is_onto ps = below 255 (λ k. ltb (find (suc k) ps) 255)

-- no two of the first 255 of ps are the same
unfoldable pub is_once : List ℕ → Bool
is_once ps = below 255 (λ k. eqb (find (get_or ps k 0) ps) k)

-- SPECIFICATION 3.2, the order test: the polynomial has degree 8, and α has order 255: its powers from 0 to 254 are all bytes but 0, each
-- once, and the next is 1 again
unfoldable pub order_test : ℕ → Bool
order_test poly =
    leb 256 poly && (ltb poly 512 && (eqb (power poly 255) 1 && (is_onto (powers poly 255 1) && is_once (powers poly 255 1))))
