-- SPECIFICATION 3.3 to 3.5 and 3.8: a block, what a codeword is, and the codeword in reach. The polynomial of the field and the exponent
-- of the first root are parameters throughout.
use Rattle.std.specs.Prelude.{Bool, cond, ◌&&◌, ◌||◌, List, [], ◌∷◌, ◌++◌, map, ℕ, zero, suc, ◌+◌, ◌/◌, leb, ltb, eqb, length, get_or}
use Rattle.std.proofs.Math.Option.{Option, none, some}
use Rattle.std.specs.Int.Bits.{bit_xor}
use Rattle.general.specs.Lists.{each}
use Rattle.field.specs.Field.{power, mul, below}

-- the value at x of a block, first byte the highest coefficient, behind a value so far (reed_solomon.rs: `eval`)
unfoldable pub eval_from : ℕ → ℕ → ℕ → List ℕ → ℕ
eval_from poly x acc [] = acc
eval_from poly x acc (b ∷ bs) = eval_from poly x (bit_xor (mul poly acc x) b) bs

abbrev pub eval : ℕ → ℕ → List ℕ → ℕ
eval poly x block = eval_from poly x 0 block

-- a codeword is zero at α^first to α^(first + parity - 1)
unfoldable pub is_codeword : ℕ → ℕ → ℕ → List ℕ → Bool
is_codeword poly first parity block = below parity (λ j. eqb (eval poly (power poly (first + j)) block) 0)

-- in how many places two blocks of one length differ
unfoldable pub distance : List ℕ → List ℕ → ℕ
distance [] ys = 0
distance (x ∷ xs) [] = 0
distance (x ∷ xs) (y ∷ ys) = cond (eqb x y) (distance xs ys) (suc (distance xs ys))

-- all words of n bytes: each byte in front of each word that is shorter by one
unfoldable pub all_words : ℕ → List (List ℕ)
all_words zero = [] ∷ []
all_words (suc n) = each 256 (λ b. map (λ w. b ∷ w) (all_words n))

-- the first of ws that passes a test
unfoldable pub first_that : (List ℕ → Bool) → List (List ℕ) → Option (List ℕ)
first_that test [] = none
first_that test (w ∷ ws) = cond (test w) (some w) (first_that test ws)

-- a word of n bytes
unfoldable pub is_word : ℕ → List ℕ → Bool
is_word n w = eqb (length w) n && below n (λ i. ltb (get_or w i 0) 256)

-- w is in reach of a block: a codeword of the same length and parity that differs from it in at most floor(parity / 2) places
unfoldable pub in_reach : ℕ → ℕ → ℕ → List ℕ → List ℕ → Bool
in_reach poly first parity block w = is_word (length block) w && (is_codeword poly first parity w && leb (distance block w) (parity / 2))

-- the codeword in reach of a block, if there is one: a search over all words of its length, to be believed and not to be run
unfoldable pub nearest : ℕ → ℕ → ℕ → List ℕ → Option (List ℕ)
nearest poly first parity block = first_that (in_reach poly first parity block) (all_words (length block))

-- the parity of data: bytes that make a codeword behind them
unfoldable pub parity_of : ℕ → ℕ → ℕ → List ℕ → Option (List ℕ)
parity_of poly first parity ds = first_that (λ p. is_codeword poly first parity (ds ++ p)) (all_words parity)

-- what is no block of that parity: parity 0, parity ≥ length or length > 255
unfoldable pub unfit : ℕ → List ℕ → Bool
unfit parity block = eqb parity 0 || (leb (length block) parity || ltb 255 (length block))
