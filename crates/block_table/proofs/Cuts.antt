-- Blocks cut out of a stream and joined again.
use Rattle.general.proofs.Names.{◌≡◌, refl, ap, ap₂, ◌∙◌, List, [], ◌∷◌, ◌++◌, flat_map, zip_with, ℕ, ◌+◌, ◌≤◌, arith, length, take, drop, length-append}
use Rattle.general.proofs.Names.{length-drop, take-append-drop, take_at, drop_at, length-take-le}
use Rattle.block_table.specs.Blocks.{Shape, size, total_size, total_data, cut, joined, data_parts, cut_data}

-- blocks of these shapes
abbrev pub Shaped : List Shape → List (List ℕ) → Type 0
Shaped [] [] = Unit {0}
Shaped [] (w ∷ ws) = ⊥
Shaped (b ∷ bs) [] = ⊥
Shaped (b ∷ bs) (w ∷ ws) = (length w ≡ size b) × Shaped bs ws

-- blocks that were joined are cut out again
pub cut_joined : (bs : List Shape) (ws : List (List ℕ)) → Shaped bs ws → cut bs (joined ws) ≡ ws
unfolding cut joined flat_map
cut_joined [] [] h = refl
cut_joined [] (w ∷ ws) h = absurd h
cut_joined (b ∷ bs) [] h = absurd h
cut_joined (b ∷ bs) (w ∷ ws) h = ap₂ ◌∷◌ (take_at w (joined ws) (size b) h.0) (ap (cut bs) (drop_at w (joined ws) (size b) h.0) ∙ cut_joined bs ws h.1)

pub cut_shaped : (bs : List Shape) (s : List ℕ) → total_size bs ≤ length s → Shaped bs (cut bs s)
unfolding cut total_size
cut_shaped [] s h = tt
cut_shaped (b ∷ bs) s h = (length-take-le (size b) s (omega arith), cut_shaped bs (drop (size b) s) (omega (arith, length-drop (size b) s)))

-- and blocks that were cut out are joined to the stream
pub joined_cut : (bs : List Shape) (s : List ℕ) → length s ≡ total_size bs → joined (cut bs s) ≡ s
unfolding cut joined flat_map total_size
joined_cut [] [] e = refl
joined_cut [] (x ∷ s) e = absurd (omega arith)
joined_cut (b ∷ bs) s e = ap (λ (r : List ℕ). take (size b) s ++ r) (joined_cut bs (drop (size b) s) (omega (arith, length-drop (size b) s)))
    ∙ take-append-drop (size b) s

pub length_joined : (bs : List Shape) (ws : List (List ℕ)) → Shaped bs ws → length (joined ws) ≡ total_size bs
unfolding total_size joined flat_map
length_joined [] [] h = refl
length_joined [] (w ∷ ws) h = absurd h
length_joined (b ∷ bs) [] h = absurd h
length_joined (b ∷ bs) (w ∷ ws) h = length-append w (joined ws) ∙ ap₂ ◌+◌ h.0 (length_joined bs ws h.1)

-- data that were cut into blocks, each with something behind them, are given back
abbrev pub Begins : List Shape → List (List ℕ) → List (List ℕ) → Type 0
Begins [] [] [] = Unit {0}
Begins [] [] (w ∷ ws) = ⊥
Begins [] (d ∷ ds) ws = ⊥
Begins (b ∷ bs) [] ws = ⊥
Begins (b ∷ bs) (d ∷ ds) [] = ⊥
Begins (b ∷ bs) (d ∷ ds) (w ∷ ws) = (take b.info w ≡ d) × Begins bs ds ws

pub data_back : (bs : List Shape) (d : List ℕ) (ws : List (List ℕ)) → length d ≡ total_data bs → Begins bs (cut_data bs d) ws → data_parts bs ws ≡ d
unfolding total_data cut_data data_parts zip_with joined flat_map
data_back [] [] [] e h = refl
data_back [] (x ∷ d) [] e h = absurd (omega arith)
data_back [] d (w ∷ ws) e h = absurd h
data_back (b ∷ bs) d [] e h = absurd h
data_back (b ∷ bs) d (w ∷ ws) e h =
    ap₂ ◌++◌ h.0 (data_back bs (drop b.info d) ws (omega (arith, length-drop b.info d)) h.1) ∙ take-append-drop b.info d
