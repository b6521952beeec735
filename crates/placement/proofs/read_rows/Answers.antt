-- `read_rows` meets its contract. Assumes nothing.
use Rattle.placement.proofs.Rows.{row_inside, row_mask, part_length, lowest_part, aligned, rows_pending, walk_again, rows_begun, rows_turn, rows_done}
use Rattle.placement.proofs.Walk.{length_lowest}
use Rattle.masks.proofs.Rows.{columns_fewer, row_new}
use Rattle.placement.specs.Walk.{bits_from, Walk}
use Rattle.codewords.specs.Codewords.{mask_bit, data_bits}
use Rattle.general.proofs.Names.{length, ◌≡◌, refl, sym, ap, subst, ◌∙◌, ℕ, ◌+◌, ◌*◌, ◌≤◌, zero-mul, arith}
use Rattle.information.specs.Inner.{lowest}
use Rattle.placement.proofs.read_rows.Goals as goal
use Rattle.placement.proofs.read_rows.Goals.{In-loop-i}

-- the row of a turn lies in the square
inside : (c : In-loop-i) → let side = c.args.side in c.loop-i.i * side + side ≤ side * side
inside c = row_inside _ _ c.loop-i-test.true

pub overflow_add-columns : goal.overflow_add-columns
overflow_add-columns c = omega arith

pub overflow_mul-columns : goal.overflow_mul-columns
overflow_mul-columns c = omega arith

pub slice_bounds-columns-end : goal.slice_bounds-columns-end
slice_bounds-columns-end c = refl

pub columns-requires : goal.columns-requires
columns-requires c = (omega arith, refl)

pub loop-i-init : goal.loop-i-init
loop-i-init c =
    let m = mask_bit _ _ in
    let ks = c.args.kinds.now in
    let sq = lowest c.args.square.now in
    let out = c.args.out.now in
    let z : 0 ≡ 0 * c.args.side = sym (zero-mul _) in
    let begun = rows_begun (data_bits m 0 ks sq) out refl refl refl c.requires.4 in
    let walk = subst (λ (k : ℕ). Walk (length out) (data_bits m 0 ks sq) out (bits_from m ks sq k) (record { column = 0; n = 0; value = 0; bits = 0 })) z begun in
    (row_new, rows_pending refl refl, omega arith, walk)

pub slice_bounds-mask_row-end : goal.slice_bounds-mask_row-end
slice_bounds-mask_row-end c = sym c.loop-i.invariant.0.size

pub slice_bounds-mask_row-end-in-loop-i : goal.slice_bounds-mask_row-end-in-loop-i
slice_bounds-mask_row-end-in-loop-i c = sym c.columns.ensures.size

pub mask_row-requires : goal.mask_row-requires
mask_row-requires c = let columns = c.columns.ensures in
    (omega arith, omega arith, columns_fewer (omega arith) columns, columns, c.loop-i.invariant.0)

pub overflow_mul-at : goal.overflow_mul-at
overflow_mul-at c = omega (arith, inside (goal.at.overflow_mul-at c).In-loop-i)

pub overflow_add-end : goal.overflow_add-end
overflow_add-end c = omega (arith, inside (goal.at.overflow_add-end c).In-loop-i)

pub slice_bounds-read_row-count : goal.slice_bounds-read_row-count
slice_bounds-read_row-count c = omega arith

pub slice_bounds-read_row-start : goal.slice_bounds-read_row-start
slice_bounds-read_row-start c = omega arith

pub slice_bounds-read_row-end : goal.slice_bounds-read_row-end
slice_bounds-read_row-end c = omega (arith, inside (goal.at.slice_bounds-read_row-end c).In-loop-i, length_lowest c.args.square.now)

pub slice_bounds-read_row-count-in-loop-i : goal.slice_bounds-read_row-count-in-loop-i
slice_bounds-read_row-count-in-loop-i c = omega arith

pub slice_bounds-read_row-start-in-loop-i : goal.slice_bounds-read_row-start-in-loop-i
slice_bounds-read_row-start-in-loop-i c = omega arith

pub slice_bounds-read_row-end-in-loop-i : goal.slice_bounds-read_row-end-in-loop-i
slice_bounds-read_row-end-in-loop-i c = omega (arith, inside (goal.at.slice_bounds-read_row-end-in-loop-i c).In-loop-i)

pub slice_bounds-read_row-end-in-loop-i-2 : goal.slice_bounds-read_row-end-in-loop-i-2
slice_bounds-read_row-end-in-loop-i-2 c = sym c.mask_row.ensures.0.size

pub read_row-r-requires : goal.read_row-r-requires
read_row-r-requires c =
    let side = c.args.side in
    let h : c.loop-i.i * c.args.side + c.args.side ≤ length c.args.square.now = omega (arith, inside (goal.at.read_row-r-requires c).In-loop-i) in
    let few = part_length (c.loop-i.i * side) side c.args.kinds.now (omega arith) in
    let row = aligned (c.loop-i.i * side) side c.requires.0 c.mask_row.ensures.0 c.requires.2 (omega arith) in
    (row, record { few = c.loop-i.invariant.1.few; small = c.loop-i.invariant.1.small }, refl, omega (arith, few))

pub overflow_add-i : goal.overflow_add-i
overflow_add-i c = omega arith

pub loop-i-smaller : goal.loop-i-smaller
loop-i-smaller c = omega arith

pub loop-i-preserved : goal.loop-i-preserved
loop-i-preserved c =
    let side = c.args.side in
    let h : c.loop-i.i * c.args.side + c.args.side ≤ length c.args.square.now = omega (arith, inside (goal.at.loop-i-preserved c).In-loop-i) in
    let mask-row = c.mask_row.ensures in
    let read-row = c.read_row-r.ensures in
    let sq = c.args.square.now in
    let walk = rows_turn (mask_bit side c.args.mask) c.args.kinds.now (lowest sq) c.loop-i.i side (omega (arith, length_lowest sq)) (omega (arith, length_lowest sq))
    (λ k l. mask-row.1 k (omega arith) ∙ row_mask c.args.mask c.loop-i.i side k l) refl read-row.1
    (rw (lowest_part (c.loop-i.i * side) (c.loop-i.i * side + side) sq) at read-row.2)
    (walk_again refl refl refl c.loop-i.invariant.3) in
    (mask-row.0, read-row.0, omega arith, walk)

pub shape_of-out : goal.shape_of-out
shape_of-out c = c.loop-i.invariant.3.words.size

pub returns : goal.returns
returns c =
    let e : c.loop-i.i ≡ c.args.side = omega arith in
    rows_done _ _ _ _
    (omega (arith, ap (λ (n : ℕ). n * c.args.side) e, length_lowest c.args.square.now)) c.loop-i.invariant.1 c.loop-i.invariant.3
