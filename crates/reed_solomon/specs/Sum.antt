-- Sums over the field, and polynomials by Horner's rule. A sequence is a function on the numbers.
use Rattle.std.specs.Prelude.{List, ℕ, zero, suc, ◌+◌, ◌-◌, ◌*◌, get_or}
use Rattle.std.specs.Int.Bits.{bit_xor}
use Rattle.field.specs.Field.{power, mul}

abbrev pub ◌⊕◌ : ℕ → ℕ → ℕ
◌⊕◌ = bit_xor

infixl 65 ◌⊕◌
-- a list as a sequence: its elements, then zeros
abbrev pub seq : List ℕ → ℕ → ℕ
seq xs i = get_or xs i 0

-- f 0 + .. + f (n - 1)
unfoldable pub sum : (ℕ → ℕ) → ℕ → ℕ
sum f zero = 0
sum f (suc n) = sum f n ⊕ f n

-- the value at x of the polynomial with the coefficients f 0 .. f (n - 1), f 0 the highest
unfoldable pub horner : ℕ → (ℕ → ℕ) → ℕ → ℕ → ℕ
horner poly f x zero = 0
horner poly f x (suc n) = mul poly (horner poly f x n) x ⊕ f n

-- the exponent of x at the place i of n coefficients
unfoldable pub degree : ℕ → ℕ → ℕ
degree n i = n - suc i

-- the locator of the place i of a word of n: α to its degree
abbrev pub locator : ℕ → ℕ → ℕ → ℕ
locator poly n i = power poly (degree n i)

-- the weight of the place i of n in the syndrome j, where the first root is α^first
abbrev pub weight : ℕ → ℕ → ℕ → ℕ → ℕ → ℕ
weight poly first n i j = power poly (degree n i * (first + j))

-- the syndrome j of the word c of n places
unfoldable pub syndrome : ℕ → ℕ → ℕ → (ℕ → ℕ) → ℕ → ℕ
syndrome poly first n c j = sum (λ i. mul poly (c i) (weight poly first n i j)) n
