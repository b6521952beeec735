-- SPECIFICATION 11, "A written mark is read back": the words in which the theorem (proofs/Theorems.antt) is stated.
use Rattle.std.specs.Prelude.{◌≡◌, true, List, [], map, ℕ, ◌*◌, ◌/◌, ◌<◌, ◌≤◌, T, length, get_or, take}
use Rattle.symbol.specs.Layout.{layout_of, data_kind, data_modules}
use Rattle.information.specs.Information.{info_flips}
use Rattle.reed_solomon.specs.Block.{distance, in_reach}
use Rattle.reed_solomon.specs.Erased.{erasures, admits, Meets}
use Rattle.erasure_corrector.specs.Erased.{correct_erased_of}
use Rattle.block_table.specs.Blocks.{total_of, shapes_of, data_parts}
use Rattle.codewords.specs.Codewords.{order}
use Rattle.blocks.specs.Blockwise.{differences}
use Rattle.segments.specs.FromData.{from_data}
use Rattle.marks.specs.Read.{Reading, module_bit, blocks_in, flags_in, outcome_reading}
use Rattle.marks.specs.Smallest.{holds}

-- how many blocks a version and level have
abbrev pub block_count : ℕ → ℕ → ℕ
block_count v level = length (shapes_of v level)

-- block j of a square for a version, level and mask, and how many of its codewords are parity
abbrev pub block_in : ℕ → ℕ → ℕ → List ℕ → ℕ → List ℕ
block_in v level mask sq j = get_or (blocks_in v level mask sq) j []

abbrev pub parity_in : ℕ → ℕ → ℕ → ℕ
parity_in v level j = get_or (map (λ b. b.parity) (shapes_of v level)) j 0

-- the flags of block j, and how many of its codewords are erased
abbrev pub flags_at : ℕ → ℕ → List ℕ → ℕ → List ℕ
flags_at v level sq j = get_or (flags_in v level sq) j []

abbrev pub erased_at : ℕ → ℕ → List ℕ → ℕ → ℕ
erased_at v level sq j = erasures (flags_at v level sq j)

-- how many information modules of a square differ from those of another, where an unknown one counts as light
abbrev pub info_changed : ℕ → List ℕ → List ℕ → ℕ
info_changed v a b = info_flips (layout_of v) a (map module_bit b)

-- how many codewords of block j, and of all blocks, are changed from one square to another
abbrev pub changed_at : ℕ → ℕ → ℕ → List ℕ → List ℕ → ℕ → ℕ
changed_at v level mask a b j = distance (block_in v level mask a j) (block_in v level mask b j)

abbrev pub changed : ℕ → ℕ → ℕ → List ℕ → List ℕ → ℕ
changed v level mask a b = differences (blocks_in v level mask a) (blocks_in v level mask b)

-- block j of a square, with its erased codewords, meets its condition for the same block of another square
abbrev pub MeetsAt : ℕ → ℕ → ℕ → List ℕ → List ℕ → ℕ → Type 0
MeetsAt v level mask sq b j = Meets (parity_in v level j) (flags_at v level sq j) (block_in v level mask sq j) (block_in v level mask b j)

-- w is a codeword that the rule of block j admits
abbrev pub Admits : ℕ → ℕ → ℕ → List ℕ → ℕ → List ℕ → Type 0
Admits v level mask sq j w = T (admits 0x163 1 (parity_in v level j) (flags_at v level sq j) (block_in v level mask sq j) w)

-- ws has such a codeword for each block
pub record EachAdmitted (v level mask : ℕ) (sq : List ℕ) (ws : List (List ℕ)) : Type 0 where
  pub number : length ws ≡ block_count v level
  pub each : (j : ℕ) → j < block_count v level → Admits v level mask sq j (get_or ws j [])

-- block j is the first that is not accepted: each before it has such a codeword, and it has none
pub record FirstRefused (v level mask : ℕ) (sq : List ℕ) (j : ℕ) : Type 0 where
  pub inside : j < block_count v level
  pub before : (i : ℕ) → i < j → (w : List ℕ) × Admits v level mask sq i w
  pub none : (w : List ℕ) → Admits v level mask sq j w → ⊥

-- w is a codeword within floor(parity / 2) places of block j
abbrev pub InReach : ℕ → ℕ → ℕ → List ℕ → ℕ → List ℕ → Type 0
InReach v level mask sq j w = T (in_reach 0x163 1 (parity_in v level j) (block_in v level mask sq j) w)

-- ws has such a codeword for each block
pub record EachInReach (v level mask : ℕ) (sq : List ℕ) (ws : List (List ℕ)) : Type 0 where
  pub number : length ws ≡ block_count v level
  pub each : (j : ℕ) → j < block_count v level → InReach v level mask sq j (get_or ws j [])

-- what a reading gives that sets each block to its word of ws: the count is the number of places in which the blocks differ from them;
-- payload and script, or the refusal, are what Segments from data gives for their data parts
abbrev pub set_to : ℕ → ℕ → ℕ → ℕ → List ℕ → List (List ℕ) → List ℕ → List ℕ → Reading
set_to v level mask d sq ws p s =
    outcome_reading v level mask d (differences (blocks_in v level mask sq) ws) (from_data (data_parts (shapes_of v level) ws) p s)

-- how many codewords of block j are set right
abbrev pub corrections_at : ℕ → ℕ → ℕ → List ℕ → ℕ → ℕ
corrections_at v level mask sq j = (correct_erased_of 0x163 1 (parity_in v level j) (flags_at v level sq j) (block_in v level mask sq j)).count

-- SPECIFICATION 6.3: place i of a square of version v is a leftover module, a data module with 8 T or more data modules before it
abbrev pub Leftover : ℕ → ℕ → Type 0
Leftover v i = (i < length (layout_of v)) × (get_or (layout_of v) i 0 ≡ data_kind) × (8 * total_of v ≤ data_modules (take i (layout_of v)))

-- SPECIFICATION 6.2, 6.4 and 6.5: place i of a square of version v is a module of the codeword at stream place q. It is a data module; with n
-- data modules before it, n below 8 T, it is one of the eight of codeword n / 8 of the square, which goes to q.
abbrev pub ModuleOf : ℕ → ℕ → ℕ → Type 0
ModuleOf v q i =
    (i < length (layout_of v)) × (get_or (layout_of v) i 0 ≡ data_kind) × (data_modules (take i (layout_of v)) < 8 * total_of v)
    × (get_or (order (total_of v)) (data_modules (take i (layout_of v)) / 8) 0 ≡ q)

-- SPECIFICATION 10.12: v is a version that holds a script and payload at a level
abbrev pub Holds : ℕ → List ℕ → List ℕ → ℕ → Type 0
Holds level s p v = (1 ≤ v) × (v ≤ 84) × (holds level s p v ≡ true)
