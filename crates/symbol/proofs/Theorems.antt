-- What a customer may quote of the layout.
use Rattle.general.proofs.Names.{◌≡◌, ℕ, ◌+◌, ◌*◌, ◌<◌, ◌≤◌, length, get_or}
use Rattle.symbol.specs.Version.{side_of}
use Rattle.symbol.specs.Layout.{corner_at, layout_of}
use Rattle.symbol.proofs.Places as places
use Rattle.symbol.proofs.KindsLow as low

-- A layout has a kind for each of the side × side places.
pub layout_length : (v : ℕ) → length (layout_of v) ≡ side_of v * side_of v
layout_length v = places.layout_length v

-- Every place has one of the four kinds: data, information, light or dark.
pub four_kinds : (v i : ℕ) → get_or (layout_of v) i 0 ≤ 3
four_kinds v i = low.layout_low v i

-- A module of a finder, a separator or the information has the kind that the corners give it, whatever alignment patterns are plotted.
pub corners_stay : (v r c : ℕ) → r < side_of v → c < side_of v → (corner_at (side_of v) r c ≡ 0 → ⊥)
    → get_or (layout_of v) (r * side_of v + c) 0 ≡ corner_at (side_of v) r c
corners_stay v r c = places.kind_is v r c
