-- `place_rows` meets its contract. Assumes nothing.
use Rattle.placement.proofs.Rows.{row_inside, row_mask}
use Rattle.drawing.proofs.Puts.{placing_begun}
use Rattle.drawing.proofs.Squares.{row_patterns, row_buffers, placing_row, placing_done}
use Rattle.masks.proofs.Rows.{columns_fewer, row_new}
use Rattle.drawing.specs.Puts.{Placing}
use Rattle.bits.specs.Bits.{bits_of}
use Rattle.symbol.specs.Layout.{data_modules}
use Rattle.codewords.specs.Codewords.{mask_bit, placed}
use Rattle.general.proofs.Names.{length, drop, ◌≡◌, refl, sym, ap, subst, ◌∙◌, ℕ, ◌+◌, ◌*◌, ◌≤◌, zero-mul, mul-le-mul_left, arith}
use Rattle.drawing.proofs.place_rows.Goals as goal
use Rattle.drawing.proofs.place_rows.Goals.{In-loop-i}

-- the row of a turn lies in the square, and that is small
inside : (c : In-loop-i) →
    let side = c.args.side in
    (c.loop-i.i * side + side ≤ side * side) × (side * side ≤ side * 189)
inside c = (row_inside _ _ c.loop-i-test.true, mul-le-mul_left _ c.requires.3)

pub overflow_add-columns : goal.overflow_add-columns
overflow_add-columns c = omega arith

pub overflow_mul-columns : goal.overflow_mul-columns
overflow_mul-columns c = omega arith

pub slice_bounds-columns-end : goal.slice_bounds-columns-end
slice_bounds-columns-end c = refl

pub columns-requires : goal.columns-requires
columns-requires c = (omega arith, refl)

pub loop-i-init : goal.loop-i-init
loop-i-init c =
    let m = mask_bit _ _ in
    let ks = c.args.kinds.now in
    let ds = bits_of _ in
    let z : 0 ≡ 0 * c.args.side = sym (zero-mul c.args.side) in
    let begun = placing_begun m ks c.args.square.now ds c.requires.1 c.requires.0 in
    (row_new, omega arith, subst (Placing m ks (placed m 0 ks ds) (drop (data_modules ks) ds) c.args.square.now ds) z begun)

pub slice_bounds-mask_row-end : goal.slice_bounds-mask_row-end
slice_bounds-mask_row-end c = sym c.loop-i.invariant.0.size

pub slice_bounds-mask_row-end-in-loop-i : goal.slice_bounds-mask_row-end-in-loop-i
slice_bounds-mask_row-end-in-loop-i c = sym c.columns.ensures.size

pub mask_row-requires : goal.mask_row-requires
mask_row-requires c = let columns = c.columns.ensures in
    (omega arith, omega arith, columns_fewer (omega arith) columns, columns, c.loop-i.invariant.0)

pub overflow_mul-at : goal.overflow_mul-at
overflow_mul-at c = omega (arith, inside (goal.at.overflow_mul-at c).In-loop-i)

pub overflow_add-end : goal.overflow_add-end
overflow_add-end c = omega (arith, inside (goal.at.overflow_add-end c).In-loop-i)

pub slice_bounds-put_row-count : goal.slice_bounds-put_row-count
slice_bounds-put_row-count c = omega arith

pub slice_bounds-put_row-start : goal.slice_bounds-put_row-start
slice_bounds-put_row-start c = omega arith

pub slice_bounds-put_row-end : goal.slice_bounds-put_row-end
slice_bounds-put_row-end c = omega (arith, (inside (goal.at.slice_bounds-put_row-end c).In-loop-i).0)

pub slice_bounds-put_row-count-in-loop-i : goal.slice_bounds-put_row-count-in-loop-i
slice_bounds-put_row-count-in-loop-i c = omega arith

pub slice_bounds-put_row-start-in-loop-i : goal.slice_bounds-put_row-start-in-loop-i
slice_bounds-put_row-start-in-loop-i c = omega arith

pub slice_bounds-put_row-end-in-loop-i : goal.slice_bounds-put_row-end-in-loop-i
slice_bounds-put_row-end-in-loop-i c = omega (arith, (inside (goal.at.slice_bounds-put_row-end-in-loop-i c).In-loop-i).0)

pub slice_bounds-put_row-end-in-loop-i-2 : goal.slice_bounds-put_row-end-in-loop-i-2
slice_bounds-put_row-end-in-loop-i-2 c = sym c.mask_row.ensures.0.size

pub put_row-bit-requires : goal.put_row-bit-requires
put_row-bit-requires c =
    let side = c.args.side in
    let h : c.loop-i.i * c.args.side + c.args.side ≤ length c.args.kinds.now = omega (arith, (inside (goal.at.put_row-bit-requires c).In-loop-i).0) in
    let buffers = row_buffers c.args.kinds.now c.loop-i.square (c.loop-i.i * side) side c.loop-i.invariant.2.size c.mask_row.ensures.0 c.requires.3 h c.requires.5 in
    (buffers, row_patterns (c.loop-i.i * side) side c.loop-i.invariant.2.patterns h)

pub overflow_add-i : goal.overflow_add-i
overflow_add-i c = omega arith

pub loop-i-smaller : goal.loop-i-smaller
loop-i-smaller c = omega arith

pub loop-i-preserved : goal.loop-i-preserved
loop-i-preserved c =
    let side = c.args.side in
    let h : c.loop-i.i * c.args.side + c.args.side ≤ length c.args.kinds.now = omega (arith, (inside (goal.at.loop-i-preserved c).In-loop-i).0) in
    let put-row = c.put_row-bit.ensures in
    let row = placing_row (mask_bit side c.args.mask) c.args.kinds.now c.mask_row.new.row c.loop-i.i side c.loop-i.invariant.2 h
    (λ k l. c.mask_row.ensures.1 k (omega arith) ∙ row_mask c.args.mask c.loop-i.i side k l) put-row.0 put-row.1 refl in
    (c.mask_row.ensures.0, omega arith, row)

pub shape_of-square : goal.shape_of-square
shape_of-square c = c.loop-i.invariant.2.size ∙ sym c.requires.1

pub returns : goal.returns
returns c =
    let e : c.loop-i.i ≡ c.args.side = omega arith in
    placing_done c.loop-i.invariant.2 (omega (arith, ap (λ (n : ℕ). n * c.args.side) e))
