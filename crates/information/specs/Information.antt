-- SPECIFICATION 5, 10.3 and 10.4 (han_xin.rs: `info_positions`, `gf16_mul`, `info_bits`, `nearest_info`). A word has 34 bits, the first in
-- bit 33.
use Rattle.std.specs.Prelude.{Bool, cond, not, ◌&&◌, true, false, List, [], ◌∷◌, map, ℕ, zero, suc, ◌+◌, ◌-◌, ◌*◌, ◌/◌, ◌%◌, ltb, leb, eqb, get_or}
use Rattle.std.specs.Int.Bits.{bit_xor}
use Rattle.std.specs.Int.Count.{ones}
use Rattle.bits.specs.Bits.{value, low_bits, store_at}
use Rattle.symbol.specs.Version.{is_version}
use Rattle.information.specs.declared.InfoBits.{InfoBits}
use Rattle.information.specs.declared.InfoBits.TheVariants as bits
use Rattle.information.specs.declared.NearestInfo.{NearestInfo}
use Rattle.information.specs.declared.NearestInfo.TheVariants as near
use Rattle.general.specs.Lists.{each}

-- The word of a version, level and mask (5.1, 5.2).

-- a times x in GF(16), x^4 + x + 1
unfoldable pub times_x : ℕ → ℕ
times_x a = cond (ltb (2 * a) 16) (2 * a) (bit_xor (2 * a) 0x13)

-- p, plus a times the n lowest bits of b: a is added where b is odd
unfoldable pub product_from : ℕ → ℕ → ℕ → ℕ → ℕ
product_from zero p a b = p
product_from (suc n) p a b = product_from n (cond (eqb (b % 2) 1) (bit_xor p a) p) (times_x a) (b / 2)

-- the product in GF(16)
unfoldable pub gf16_mul : ℕ → ℕ → ℕ
gf16_mul a b = product_from 4 0 a b

-- f times the generator's coefficients 13, 12, 8 and 7, the first being 1: four nibbles
unfoldable pub generator_times : ℕ → ℕ
generator_times f = gf16_mul f 13 * 4096 + gf16_mul f 12 * 256 + gf16_mul f 8 * 16 + gf16_mul f 7

-- the remainder of four nibbles, with one data nibble more
unfoldable pub remainder : ℕ → ℕ → ℕ
remainder r nibble = bit_xor (r % 4096 * 16) (generator_times (bit_xor nibble (r / 4096)))

-- three data nibbles, four parity nibbles, six zero bits
unfoldable pub word_of : ℕ → ℕ
word_of d = (d * 65536 + remainder (remainder (remainder 0 (d / 256)) (d / 16 % 16)) (d % 16)) * 64

-- of the 12 bits v + 20, level, mask
unfoldable pub info_bits : ℕ → ℕ → ℕ → ℕ
info_bits v level mask = word_of ((v + 20) * 16 + level * 4 + mask)

-- SPECIFICATION 10.3, Information word. 1: version, level or mask outside its range; 0, and the word beside it.
unfoldable pub is_info : ℕ → ℕ → ℕ → Bool
is_info v level mask = is_version v && (leb level 3 && leb mask 3)

pub record InfoAnswer : Type 0 where
  pub number : ℕ
  pub word : ℕ

unfoldable pub info_of : ℕ → ℕ → ℕ → InfoAnswer
info_of v level mask = cond (is_info v level mask) (record { number = 0; word = info_bits v level mask }) (record { number = 1; word = 0 })

-- what each case of the code's answer says
abbrev pub info_answer : InfoBits → InfoAnswer
info_answer (bits.Word w) = record { number = 0; word = w }
info_answer bits.OutOfRange = record { number = 1; word = 0 }

-- The nearest of the 16 words of a version (5.5 to 5.7).

-- word k has level k / 4 and mask k % 4
unfoldable pub word_at : ℕ → ℕ → ℕ
word_at v k = info_bits v (k / 4) (k % 4)

-- the differing bits of both copies, a and b
unfoldable pub word_distance : ℕ → ℕ → ℕ → ℕ → ℕ
word_distance v a b k = ones (bit_xor (word_at v k) a) + ones (bit_xor (word_at v k) b)

-- the first of 0 to n at which d is least
unfoldable pub least_of : (ℕ → ℕ) → ℕ → ℕ
least_of d zero = 0
least_of d (suc n) = let best = least_of d n in cond (ltb (d (suc n)) (d best)) (suc n) best

-- the nearest word: ties to the lowest level, then mask
unfoldable pub nearest_word : ℕ → ℕ → ℕ → ℕ
nearest_word v a b = least_of (word_distance v a b) 15

-- SPECIFICATION 10.4, Nearest word. 1: version outside its range; 0, and level, mask and distance beside it.
pub record NearestAnswer : Type 0 where
  pub number : ℕ
  pub level : ℕ
  pub mask : ℕ
  pub distance : ℕ

unfoldable pub nearest_of : ℕ → ℕ → ℕ → NearestAnswer
nearest_of v a b =
    let k = nearest_word v a b in
    cond (is_version v) (record { number = 0; level = k / 4; mask = k % 4; distance = word_distance v a b k })
    (record { number = 1; level = 0; mask = 0; distance = 0 })

-- what each case of the code's answer says
abbrev pub nearest_answer : NearestInfo → NearestAnswer
nearest_answer (near.Nearest l m d) = record { number = 0; level = l; mask = m; distance = d }
nearest_answer near.NoVersion = record { number = 1; level = 0; mask = 0; distance = 0 }

-- The 68 information modules of a square of side s (5.3, 5.4): 34 places, each in two copies.

-- the first copy: along row 8 to the corner (place 8), up column 8 to the top, down column s − 9 to the corner (place 25), along row 8 to the right
unfoldable pub position_row : ℕ → ℕ
position_row n = cond (ltb n 9) 8 (cond (ltb n 17) (16 - n) (cond (ltb n 26) (n - 17) 8))

unfoldable pub position_column : ℕ → ℕ → ℕ
position_column s n = cond (ltb n 9) n (cond (ltb n 17) 8 (cond (ltb n 26) (s - 9) (s - 9 + (n - 25))))

-- the second copy is the first, turned half round
unfoldable pub info_position : ℕ → Bool → ℕ → ℕ
info_position s second n = cond second (s * s - 1 - (position_row n * s + position_column s n)) (position_row n * s + position_column s n)

-- the places of a copy, in order
unfoldable pub positions : ℕ → Bool → List ℕ
positions s second = each 34 (λ n. info_position s second n ∷ [])

-- a copy that is read out of a square
unfoldable pub copy_of : ℕ → Bool → List ℕ → ℕ
copy_of s second g = value 0 (map (λ p. get_or g p 0) (positions s second))

-- a word written into both copies
unfoldable pub info_written : ℕ → ℕ → List ℕ → List ℕ
info_written s w g = store_at (positions s true) (low_bits 34 w) (store_at (positions s false) (low_bits 34 w) g)

-- how many information modules of two squares differ, by the layout's kinds
unfoldable pub info_flips : List ℕ → List ℕ → List ℕ → ℕ
info_flips [] g h = 0
info_flips (k ∷ ks) [] h = 0
info_flips (k ∷ ks) (x ∷ g) [] = 0
info_flips (k ∷ ks) (x ∷ g) (y ∷ h) = cond (eqb k 1 && not (eqb x y)) 1 0 + info_flips ks g h
