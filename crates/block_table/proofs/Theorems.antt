-- What a customer may quote of the block table and of blocks.
use Rattle.general.proofs.Names.{◌≡◌, List, ℕ, ◌≤◌, T, length}
use Rattle.block_table.specs.Blocks.{total_of, row_holds, Shape, shapes_of, total_size, total_data, cut, joined, data_parts, cut_data}
use Rattle.block_table.specs.Inner.{Sound}
use Rattle.block_table.proofs.Rows as rows
use Rattle.block_table.proofs.Cuts as cuts

-- No row of the 336 breaks the rule, so that no level of any version is answered 1 for its row.
pub row_holds_lem : (v level : ℕ) → 1 ≤ v → v ≤ 84 → level ≤ 3 → T (row_holds (shapes_of v level) (total_of v))
row_holds_lem = rows.row_holds_lem

-- The blocks of a version and level have the version's codewords in all ..
pub shapes_total : (v level : ℕ) → 1 ≤ v → v ≤ 84 → level ≤ 3 → total_size (shapes_of v level) ≡ total_of v
shapes_total = rows.shapes_total

-- .. and each has data, parity, and at most 255 codewords.
pub shapes_sound : (v level : ℕ) → 1 ≤ v → v ≤ 84 → level ≤ 3 → Sound (shapes_of v level)
shapes_sound = rows.shapes_sound

-- Blocks that are joined to a stream are cut out of it again, and a stream that is cut is joined again.
pub cut_joined : (bs : List Shape) (ws : List (List ℕ)) → cuts.Shaped bs ws → cut bs (joined ws) ≡ ws
cut_joined = cuts.cut_joined

pub joined_cut : (bs : List Shape) (s : List ℕ) → length s ≡ total_size bs → joined (cut bs s) ≡ s
joined_cut = cuts.joined_cut

-- Data that are cut into the data parts of blocks are given back from blocks that begin with them.
pub data_back : (bs : List Shape) (d : List ℕ) (ws : List (List ℕ)) → length d ≡ total_data bs → cuts.Begins bs (cut_data bs d) ws → data_parts bs ws ≡ d
data_back = cuts.data_back
