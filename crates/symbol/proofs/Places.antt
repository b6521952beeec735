-- The kinds of a layout: its length, and that a place of the corners that is no data module keeps its kind.
use Rattle.general.proofs.Names.{◌≡◌, sym, ap, ◌∙◌, cond, [], ℕ, ◌+◌, ◌*◌, ◌/◌, ◌%◌, ◌<◌}
use Rattle.general.proofs.Names.{arith, ltb, length, get_or}
use lib.Arith.{digits_div, digits_mod, digits_lt}
use Rattle.symbol.specs.Version.{side_of}
use Rattle.symbol.specs.Layout.{corner_at, corners, alignment, layout_of}
use Rattle.symbol.specs.Inner.{corner_kind}
use Rattle.symbol.proofs.FirstPlot.{drawn_kept, all_length, all_at}
use Rattle.general.proofs.Lists.{length_table, get_or_table}

pub layout_length : (v : ℕ) → length (layout_of v) ≡ side_of v * side_of v
unfolding layout_of corners
layout_length v =
    all_length (side_of v) (cond (ltb v 4) [] (alignment v)) (corners (side_of v)) ∙ length_table (side_of v * side_of v)
    (λ i. corner_at (side_of v) (i / side_of v) (i % side_of v))

-- a place of a finder, a separator or the information has its kind in the layout
pub kind_is : (v r c : ℕ) → r < side_of v → c < side_of v → (corner_at (side_of v) r c ≡ 0 → ⊥) → get_or (layout_of v) (r * side_of v + c) 0 ≡ corner_at (side_of v) r c
unfolding layout_of corners
kind_is v r c h g n =
    let e : get_or (corners (side_of v)) (r * side_of v + c) 0 ≡ corner_at (side_of v) r c =
    get_or_table (side_of v * side_of v) (λ i. corner_at (side_of v) (i / side_of v) (i % side_of v)) (r * side_of v + c) (digits_lt h g)
    ∙ ap (λ (k : ℕ). corner_at (side_of v) k ((r * side_of v + c) % side_of v)) (digits_div r g)
    ∙ ap (corner_at (side_of v) r) (digits_mod r g) in
    all_at (side_of v) (cond (ltb v 4) [] (alignment v)) (corners (side_of v)) (r * side_of v + c) (digits_lt h g)
    (omega (arith, length_table (side_of v * side_of v) (corner_kind (side_of v))))
    ∙ drawn_kept _ (λ z. n (sym e ∙ z)) ∙ e
