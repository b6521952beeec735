-- The blocks that are written: codewords that begin with their data. Assumes nothing.
use Rattle.general.proofs.Names.{◌≡◌, sym, ap, ap₂, subst, ◌∙◌, List, [], ◌∷◌, flat_map, zip_with, ℕ, ◌+◌, ◌≤◌, arith, T, length, take, drop, length-append}
use Rattle.general.proofs.Names.{length-drop, take_at, get_or-drop, length-take-le}
use Rattle.field.proofs.Instances.{primitive_163}
use Rattle.reed_solomon.specs.Block.{is_codeword, parity_of}
use Rattle.reed_solomon.proofs.Search.{Bytes}
use Rattle.parity.proofs.ParityBytes.{append_bytes, take_bytes}
use Rattle.parity.proofs.Theorems.{has_parity, parity_makes_codeword}
use Rattle.block_table.specs.Blocks.{Shape, size, total_data, joined, cut_data}
use Rattle.block_table.specs.Inner.{Sound, more}
use Rattle.block_table.proofs.Cuts.{Begins}
use Rattle.blocks.specs.Blockwise.{with_parities}
use Rattle.blocks.proofs.RefusedStreams.{Coded}
use Rattle.parity.specs.Inner.{with_parity}

pub drop_bytes : (k : ℕ) (xs : List ℕ) → Bytes xs → Bytes (drop k xs)
drop_bytes k xs b i = omega (arith, get_or-drop k xs i 0, b (k + i))

-- one block
block_written : (b : Shape) (d : List ℕ) → size b ≤ 255 → Bytes d → length d ≡ b.info
    → let w = with_parity d (parity_of 0x163 1 b.parity d) in
    ((length w ≡ size b) × Bytes w × T (is_codeword 0x163 1 b.parity w)) × (take b.info w ≡ d)
block_written b d small bytes l =
    let r = has_parity 0x163 primitive_163 1 b.parity d bytes (omega arith) in
    subst
    (λ (w : List ℕ). ((length w ≡ size b) × Bytes w × T (is_codeword 0x163 1 b.parity w)) × (take b.info w ≡ d))
    (sym (ap (with_parity d) r.1)) (
      (length-append d r.0 ∙ ap₂ ◌+◌ l r.2, append_bytes d r.0 bytes r.3, parity_makes_codeword 0x163 primitive_163 1 b.parity d r.0 r.1),
      take_at d r.0 b.info l,
    )

-- all of them
pub encoded_coded : (bs : List Shape) (ds : List ℕ) → Sound bs → Bytes ds → total_data bs ≤ length ds
    → Coded bs (with_parities bs (cut_data bs ds)) × Begins bs (cut_data bs ds) (with_parities bs (cut_data bs ds))
unfolding with_parities cut_data total_data zip_with
encoded_coded [] ds S bytes h = (tt, tt)
encoded_coded (b ∷ bs) ds (more i p s S) bytes h =
    let w = block_written b (take b.info ds) s (take_bytes b.info ds bytes) (length-take-le b.info ds (omega arith)) in
    let r = encoded_coded bs (drop b.info ds) S (drop_bytes b.info ds bytes) (omega (arith, length-drop b.info ds)) in
    ((w.0, r.0), (w.1, r.1))

pub joined_bytes : (bs : List Shape) (vs : List (List ℕ)) → Coded bs vs → Bytes (joined vs)
unfolding joined flat_map
joined_bytes [] [] C i = omega arith
joined_bytes [] (v ∷ vs) C i = absurd C
joined_bytes (b ∷ bs) [] C i = absurd C
joined_bytes (b ∷ bs) (v ∷ vs) C i = append_bytes v (joined vs) C.0.1 (joined_bytes bs vs C.1) i
