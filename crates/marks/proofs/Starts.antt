-- What reading and writing begin with: version, level and mask in their ranges, the version's layout, and whether it has blocks.
-- Assumes nothing.
use Rattle.general.proofs.Names.{◌≡◌, refl, sym, ap, ◌∙◌, Bool, true, false, cond, ◌&&◌, List, ◌++◌, ◌≢◌, ℕ, ◌+◌, ◌-◌, ◌*◌, ◌/◌, ◌%◌, ◌≤◌, ◌<◌, leb-true, eqb-true, [], ◌∷◌}
use Rattle.general.proofs.Names.{arith, eq-eqb, ne_eqb, le-leb, lt-leb, le-ltb, T, leb, eqb, length, take, drop, length-append, take_at}
use Rattle.symbol.specs.Version.{side_of, is_version, is_side, side_version}
use Rattle.symbol.specs.Layout.{layout_of, layout_refusal, layout_written}
use Rattle.symbol.proofs.Theorems.{layout_length}
use Rattle.information.specs.declared.InfoBits.{InfoBits}
use Rattle.information.specs.declared.InfoBits.TheVariants.{Word, OutOfRange}
use Rattle.information.specs.Information.{info_bits, is_info, InfoAnswer, info_of, info_answer, nearest_word, word_distance, NearestAnswer, nearest_of}
use Rattle.information.proofs.Apart.{nearest_le}
use Rattle.block_table.specs.Blocks.{total_of, row_of, row_holds, shapes, shapes_of, total_size, total_data, has_blocks, Shape}
use Rattle.symbol.specs.Layout.{data_modules}
use Rattle.block_table.proofs.Rows.{total_small}
use Rattle.block_table.proofs.Theorems.{row_holds_lem}
use Rattle.blocks.proofs.Theorems.{row_holds_own}
use Rattle.marks.specs.Read.{Reading, reading_of, refused, with_receipt, nearest_in}
use Rattle.marks.proofs.Refusals.{both_true, true_unless, false_unless}
use Rattle.marks.proofs.Marks.{version_is}
use Rattle.marks.specs.Inner.{level_in, mask_in}

-- ---- the layout of a version, written into a buffer that is long enough

pub layout_front : (v : ℕ) (out g : List ℕ) → 1 ≤ v → v ≤ 84 → side_of v * side_of v ≤ length out → g ≡ layout_written v out
    → (side_of v * side_of v ≤ length g) × (take (side_of v * side_of v) g ≡ layout_of v)
unfolding layout_written layout_refusal
layout_front v out g low high h e =
    let n = side_of v * side_of v in
    let f : g ≡ layout_of v ++ drop n out = e ∙ simp (version_is v low high, le-ltb (length out) n h) in
    (omega (arith, ap length f, length-append (layout_of v) (drop n out), layout_length v), ap (take n) f ∙ take_at (layout_of v) (drop n out) n (layout_length v))

-- ---- b is the answer for the word of a version, level and mask

module _ (v l k : ℕ) (b : InfoBits) (er : info_answer b ≡ info_of v l k) where
  number_is : (info_answer b).number ≡ cond (is_info v l k) 0 1
  unfolding info_of
  number_is = ap (λ (x : InfoAnswer). x.number) er ∙ go (is_info v l k)
    where
      go : (t : Bool) → (cond {A = InfoAnswer} t (record { number = 0; word = info_bits v l k }) (record { number = 1; word = 0 })).number ≡ cond t 0 1
      go true = refl
      go false = refl

  pub no_word : b ≡ OutOfRange → is_info v l k ≡ false
  no_word e = false_unless (is_info v l k) 0 (sym number_is ∙ ap (λ (x : InfoBits). (info_answer x).number) e)

  pub has_word : (w : ℕ) → b ≡ Word w → is_info v l k ≡ true
  has_word w e = true_unless (is_info v l k) 0 (sym number_is ∙ ap (λ (x : InfoBits). (info_answer x).number) e)

-- ---- whether a version and level have blocks: the rows of the table hold their rule, so that the data modules decide

is_true : (b : Bool) → T b → b ≡ true
is_true true t = refl
is_true false t = absurd t

pub and_false : (a : Bool) → (a && false) ≡ false
and_false true = refl
and_false false = refl

pub has_blocks_lem : (v l : ℕ) → 1 ≤ v → v ≤ 84 → l ≤ 3 → 8 * total_of v ≤ data_modules (layout_of v) → has_blocks v l ≡ true
unfolding has_blocks
has_blocks_lem v l low high level h =
    rw (is_true (row_holds (shapes_of v l) (total_of v)) (row_holds_lem v l low high level), le-leb (8 * total_of v) (data_modules (layout_of v)) h)

pub no_blocks : (v l : ℕ) → data_modules (layout_of v) < 8 * total_of v → has_blocks v l ≡ false
unfolding has_blocks
no_blocks v l h =
    rw (lt-leb (8 * total_of v) (data_modules (layout_of v)) h) (and_false (row_holds (shapes_of v l) (total_of v)))

-- ---- what a reading answers, by its first refusal

pub in_body : (r p s : List ℕ) (n : ℕ) (body : Reading) → length r ≡ 12 → n ≡ 0 → with_receipt r p s n body ≡ body
unfolding with_receipt
in_body r p s n body e z = simp (eq-eqb (length r) 12 e, eq-eqb n 0 z)

pub no_receipt : (r p s : List ℕ) (n : ℕ) (body : Reading) → length r ≢ 12 → reading_of 2 r p s ≡ with_receipt r p s n body
unfolding with_receipt
no_receipt r p s n body d = sym (simp (ne_eqb (length r) 12 d))

pub in_refusal : (r p s : List ℕ) (n m : ℕ) (body : Reading) → length r ≡ 12 → n ≡ m → m ≢ 0 → refused m p s ≡ with_receipt r p s n body
unfolding with_receipt
in_refusal r p s n m body e z d = sym (simp (eq-eqb (length r) 12 e, z, ne_eqb m 0 d))

-- ---- the version of a side, and the nearest level and mask

side_facts : (side : ℕ) → is_side side ≡ true → (23 ≤ side) × (side ≤ 189) × (side % 2 ≡ 1) × (side_version side ≡ (side - 21) / 2)
unfolding side_version is_side
side_facts side e =
    let a = both_true (leb 23 side) (leb side 189 && eqb (side % 2) 1) e in
    let b = both_true (leb side 189) (eqb (side % 2) 1) a.1 in
    (leb-true 23 side a.0, leb-true side 189 b.0, eqb-true (side % 2) 1 b.1, rw e)

pub side_range : (side : ℕ) → is_side side ≡ true → (1 ≤ side_version side) × (side_version side ≤ 84)
side_range side e = let f = side_facts side e in (omega arith, omega arith)

abbrev missing : NearestAnswer
missing = record { number = 1; level = 0; mask = 0; distance = 0 }

module _ (v a b : ℕ) where
  abbrev found : NearestAnswer
  found = record { number = 0; level = nearest_word v a b / 4; mask = nearest_word v a b % 4; distance = word_distance v a b (nearest_word v a b) }

  ranged : ((nearest_of v a b).level ≤ 3) × ((nearest_of v a b).mask ≤ 3)
  unfolding nearest_of nearest_word
  ranged = go (is_version v)
    where
      go : (t : Bool) → ((cond t found missing).level ≤ 3) × ((cond t found missing).mask ≤ 3)
      go true = (omega (arith, nearest_le (word_distance v a b) 15), omega arith)
      go false = (omega arith, omega arith)

pub level_range : (v : ℕ) (sq : List ℕ) → level_in v sq ≤ 3
unfolding nearest_in
level_range v sq = (ranged v _ _).0

pub mask_range : (v : ℕ) (sq : List ℕ) → mask_in v sq ≤ 3
unfolding nearest_in
mask_range v sq = (ranged v _ _).1

pub side_back : (side : ℕ) → is_side side ≡ true → side_of (side_version side) ≡ side
side_back side e = let f = side_facts side e in omega arith

-- the data codewords are no more than the codewords
pub data_le : (bs : List Shape) → total_data bs ≤ total_size bs
unfolding total_data total_size
data_le [] = omega arith
data_le (b ∷ bs) = omega (arith, data_le bs)

-- ---- r is the row of a version and level

module _ (v l : ℕ) (low : 1 ≤ v) (high : v ≤ 84) (level : l ≤ 3) (r : List ℕ) (is : r ≡ row_of v l) where
  own : (total_size (shapes r) ≡ total_of v) × T (row_holds (shapes r) (total_size (shapes r)))
  unfolding shapes_of
  own = row_holds_own (shapes r) (total_of v) (rw is (row_holds_lem v l low high level))

  -- it has the version's codewords, and holds its rule ..
  pub row_total : total_size (shapes r) ≡ total_of v
  row_total = own.0

  pub row_own : T (row_holds (shapes r) (total_size (shapes r)))
  row_own = own.1

  -- .. and no more codewords, and no more data codewords, than a buffer has bytes
  pub row_small : total_size (shapes r) ≤ 3886
  row_small = omega (arith, row_total, total_small v low high)

  pub row_data : total_data (shapes r) ≤ 3886
  row_data = omega (arith, data_le (shapes r), row_small)
