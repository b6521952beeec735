-- Registers of 32 bytes in four words, and the rows of a table.
use Rattle.std.specs.Prelude.{◌≡◌, ◌≢◌, List, ℕ, zero, suc, ◌+◌, ◌-◌, ◌*◌, ◌/◌, ◌%◌, ◌^◌, ◌≤◌, ◌<◌, length, get_or, take, T}
use Rattle.std.specs.Int.Bits.{bit_xor}
use Rattle.field.specs.Field.{times_alpha, mul, power, order_test}
use Rattle.reed_solomon.specs.Block.{eval_from, eval}
use Rattle.remainder.specs.declared.Register.{Register}

-- Horner's rule at x over the n low bytes of a number, the highest first, behind a value so far
unfoldable pub digits : ℕ → ℕ → ℕ → ℕ → ℕ → ℕ
digits poly x acc zero w = acc
digits poly x acc (suc n) w = bit_xor (mul poly (digits poly x acc n (w / 256)) x) (w % 256)

-- the same over a register
unfoldable pub behind : ℕ → ℕ → ℕ → Register → ℕ
behind poly x acc r = digits poly x (digits poly x (digits poly x (digits poly x acc 8 r.a) 8 r.b) 8 r.c) 8 r.d

-- four bytes followed by a register are zero at x
abbrev pub Zero : ℕ → ℕ → ℕ → Register → Type 0
Zero poly x v r = behind poly x (digits poly x 0 4 v) r ≡ 0

abbrev pub row_at : List ℕ → ℕ → Register
row_at t n = record { a = get_or t (4 * n) 0; b = get_or t (4 * n + 1) 0; c = get_or t (4 * n + 2) 0; d = get_or t (4 * n + 3) 0 }

abbrev pub none : Register
none = record { a = 0; b = 0; c = 0; d = 0 }

abbrev pub sum_of : Register → Register → Register
sum_of r s = record { a = bit_xor r.a s.a; b = bit_xor r.b s.b; c = bit_xor r.c s.c; d = bit_xor r.d s.d }

-- each of the n low bytes times α
unfoldable pub double_of : ℕ → ℕ → ℕ → ℕ
double_of poly zero w = 0
double_of poly (suc n) w = double_of poly n (w / 256) * 256 + times_alpha poly (w % 256)

abbrev pub doubled_of : ℕ → Register → Register
doubled_of poly r = record { a = double_of poly 8 r.a; b = double_of poly 8 r.b; c = double_of poly 8 r.c; d = double_of poly 8 r.d }

-- a register moved up by n bytes, where n + m is 8
abbrev pub moved_of : ℕ → ℕ → Register → Register
moved_of n m r = record {
  a = r.a % 256 ^ m * 256 ^ n + r.b / 256 ^ m;
  b = r.b % 256 ^ m * 256 ^ n + r.c / 256 ^ m;
  c = r.c % 256 ^ m * 256 ^ n + r.d / 256 ^ m;
  d = r.d % 256 ^ m * 256 ^ n + 0;
}

-- The table of a field, at x: the row 16 i + f is zero at x behind f as the hexadecimal digit i of four bytes.
pub record Rows (poly x : ℕ) (t : List ℕ) : Type 0 where
  pub field : T (order_test poly)
  pub zero_at : (i f : ℕ) → i < 8 → f < 16 → Zero poly x (f * 2 ^ (4 * i)) (row_at t (16 * i + f))

-- the rows of the four bytes y added: where four bytes h, behind a value, followed by r are zero, h plus y followed by n are
pub record Adds (t : List ℕ) (y : ℕ) (r n : Register) : Type 0 where
  pub adds : (poly x e h : ℕ) → Rows poly x t → behind poly x (digits poly x e 4 h) r ≡ 0 → behind poly x (digits poly x e 4 (bit_xor h y)) n ≡ 0

-- what a step by four bytes v keeps: where what was read so far, followed by the register r, is zero, it is so with v and n
pub record Keeps (t : List ℕ) (v : ℕ) (r n : Register) : Type 0 where
  pub keeps : (poly x e : ℕ) → Rows poly x t → behind poly x e r ≡ 0 → behind poly x (digits poly x e 4 v) n ≡ 0

-- the first k bytes of a block followed by the register r are zero at each root
pub record Left (Root : ℕ → Type 0) (k : ℕ) (block : List ℕ) (r : Register) : Type 0 where
  pub zero_at : (x : ℕ) → Root x → behind 0x163 x (eval_from 0x163 x 0 (take k block)) r ≡ 0

-- the row n set to r
pub record Put (n : ℕ) (r : Register) (t t' : List ℕ) : Type 0 where
  pub size : length t' ≡ length t
  pub here : row_at t' n ≡ r
  pub other : (m : ℕ) → m ≢ n → row_at t' m ≡ row_at t m

-- the first k of the n rows from at + n on are those from `at` on plus r
pub record Extended (at n k : ℕ) (r : Register) (t t' : List ℕ) : Type 0 where
  pub size : length t' ≡ length t
  pub new : (f : ℕ) → f < k → row_at t' (at + n + f) ≡ sum_of (row_at t (at + f)) r
  pub below : (m : ℕ) → m < at + n → row_at t' m ≡ row_at t m
  pub above : (m : ℕ) → at + n + k ≤ m → row_at t' m ≡ row_at t m

-- the first 2^b rows of the digit i, where `first` is that of 1, and r that of 2^b
pub record Filling (i b : ℕ) (first : Register) (t t' : List ℕ) (r : Register) : Type 0 where
  pub size : length t' ≡ length t
  pub rows : (x : ℕ) → Zero 0x163 x (2 ^ (4 * i)) first → (f : ℕ) → f < 2 ^ b → Zero 0x163 x (f * 2 ^ (4 * i)) (row_at t' (16 * i + f))
  pub next : (x : ℕ) → Zero 0x163 x (2 ^ (4 * i)) first → b + 4 * (i % 2) < 8 → Zero 0x163 x (2 ^ b * 2 ^ (4 * i)) r
  pub below : (m : ℕ) → m < 16 * i → row_at t' m ≡ row_at t m
  pub above : (m : ℕ) → 16 * i + 2 ^ b ≤ m → row_at t' m ≡ row_at t m

-- all rows of the byte k, where r is that of 1
pub record Bytewise (k : ℕ) (r : Register) (t t' : List ℕ) : Type 0 where
  pub size : length t' ≡ length t
  pub rows : (x : ℕ) → Zero 0x163 x (2 ^ (4 * (2 * k))) r → (i f : ℕ) → 2 * k ≤ i → i < 2 * k + 2 → f < 16 → Zero 0x163 x (f * 2 ^ (4 * i)) (row_at t' (16 * i + f))
  pub below : (m : ℕ) → m < 32 * k → row_at t' m ≡ row_at t m
  pub above : (m : ℕ) → 32 * k + 32 ≤ m → row_at t' m ≡ row_at t m

-- the rows of the last byte
abbrev pub ByteRows : ℕ → ℕ → List ℕ → Type 0
ByteRows poly x t = (i f : ℕ) → i < 2 → f < 16 → Zero poly x (f * 2 ^ (4 * i)) (row_at t (16 * i + f))

-- what a step by one byte v keeps, by the rows of the last byte
pub record Shifts (t : List ℕ) (v : ℕ) (r n : Register) : Type 0 where
  pub shifts : (poly x e : ℕ) → T (order_test poly) → ByteRows poly x t → behind poly x e r ≡ 0 → behind poly x (bit_xor (mul poly e x) v) n ≡ 0

-- the rows of the k last bytes in a table of the generator g, and r, the first row of the next
pub record Filled (k : ℕ) (g : Register) (t : List ℕ) (r : Register) : Type 0 where
  pub size : length t ≡ 512
  pub rows : (x : ℕ) → Zero 0x163 x 1 g → (i f : ℕ) → i < 2 * k → f < 16 → Zero 0x163 x (f * 2 ^ (4 * i)) (row_at t (16 * i + f))
  pub free : (m : ℕ) → 32 * k ≤ m → row_at t m ≡ none
  pub next : (x : ℕ) → Zero 0x163 x 1 g → k < 4 → Zero 0x163 x (2 ^ (4 * (2 * k))) r

-- a parity whose generator is in the table
abbrev pub IsTabled : ℕ → Type 0
IsTabled parity = (2 ≤ parity) × (parity ≤ 32) × (parity % 2 ≡ 0)

-- the table for a parity: where the parity is tabled, its rows are zero at the roots α^1 to α^parity
pub record Prepared (parity : ℕ) (t : List ℕ) : Type 0 where
  pub size : length t ≡ 512
  pub rows : IsTabled parity → (j : ℕ) → j < parity → Rows 0x163 (power 0x163 (1 + j)) t

unfoldable pub word_at : Register → ℕ → ℕ
word_at r zero = r.a
word_at r (suc zero) = r.b
word_at r (suc (suc zero)) = r.c
word_at r (suc (suc (suc k))) = r.d

abbrev pub byte_at : Register → ℕ → ℕ
byte_at r i = word_at r (i / 8) / 2 ^ (56 - 8 * (i % 8)) % 256

-- all bytes of a register behind the first k are zero
pub record Kept (r : Register) (k : ℕ) : Type 0 where
  pub few : k ≤ 32
  pub zeros : (i : ℕ) → k ≤ i → i < 32 → byte_at r i ≡ 0

-- a block of bytes followed by the register r is zero at α^first to α^(first + parity - 1)
pub record Remains (poly first parity : ℕ) (block : List ℕ) (r : Register) : Type 0 where
  pub byte : (j : ℕ) → j < parity → eval poly (power poly (first + j)) block < 256
  pub zero_at : (j : ℕ) → j < parity → behind poly (power poly (first + j)) (eval poly (power poly (first + j)) block) r ≡ 0

-- r is what the division leaves of the first k bytes of a block, where there is a generator for the parity
pub record Leaves (parity k : ℕ) (block : List ℕ) (r : Register) : Type 0 where
  pub remains : IsTabled parity → Remains 0x163 1 parity (take k block) r
